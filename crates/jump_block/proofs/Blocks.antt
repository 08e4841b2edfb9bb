-- The search of a block, word by word.
use Rattle.std.proofs.lemmas.Grind.{common_steps}
use Rattle.std.proofs.Common.{◌≡◌, ℕ, zero, suc, ◌+◌, ◌*◌, ◌-◌, ◌/◌, ◌%◌, ◌^◌, ◌<◌, ◌≤◌, ◌⊎◌, inl, inr, arith}
use Rattle.std.proofs.Common.{Bool, true, false, not, ◌&&◌, refl, ap, sym, ◌∙◌, subst, bit_and}
use Rattle.std.proofs.Common.{slice_index_or}
use Rattle.std.specs.Prelude.{nat_eq}
use Rattle.std.proofs.lemmas.Bool.{cases_lt}
use Rattle.std.proofs.lemmas.Bool.Decides.{nat_tests}
use Rattle.std.proofs.lemmas.Nat.Bits.{shr_and_one}
use Rattle.grid_moves.specs.declared.Corner.{Corner}
use Rattle.grid_moves.specs.Bits.{is_set}
use Rattle.grid_moves.proofs.Bits.{set_and, set_none}
use Rattle.jump_block.specs.declared.word.Way.{Way}
use Rattle.jump_block.specs.declared.word.Way.TheVariants.{Forward, Back}
use Rattle.bit_grid.specs.declared.lines.ThreeWords.{ThreeWords}
use Rattle.jump_block.specs.declared.block.Block.{Block}
use Rattle.jump_block.specs.Trail.{Trail, IsClear, Halts, halts, shows_mark, at_start, begun}
use Rattle.jump_block.specs.Word.{Meets, IsWordOf, AreWordsOf, IsEdgeOf, AreEdgesOf, IsOpened, IsBlockOf}
use Rattle.jump_block.specs.Word.{IsFound, IsAhead, TellMoves, TellTrails, near, far, moves_before}
use Rattle.jump_block.specs.Word.{moves_short_of, is_past, nth_word, edge_before, words_of}
use Rattle.jump_block.specs.Eight.{IsAllAs, last_bit}
use Rattle.jump_block.specs.Seek.{HasPassed}
use Rattle.jump_block.proofs.Words.{either_there, halts_there}
use Rattle.jump_block.proofs.Reading.{nth_small}

-- the words that the way has passed give the edges
edge_of : (side : ℕ → Bool) (way : Way) (from base word : ℕ) → IsWordOf side way from base word
    → IsEdgeOf side way from (far way base) word
edge_of side Forward from base word here = λ k m. here 63 k (omega arith) (omega arith)
edge_of side Back from base word here = λ k m. here 0 k (omega arith) (omega arith)

pub edges_of : (t : Trail) (way : Way) (from base : ℕ) (w : ThreeWords) → AreWordsOf t way from base w
    → AreEdgesOf t way from (far way base) w
edges_of t way from base w are = grind (arith, nat_tests, common_steps, edge_of)

-- before the way leaves the first word it has no edge behind it
pub no_edges : (t : Trail) (way : Way) (from base : ℕ) (w : ThreeWords) → base ≤ from → from < base + 64
    → AreEdgesOf t way from (near way base) w
no_edges t way from base w h1 h2 = grind (arith, nat_tests, common_steps)

-- a number of moves is known by where they lead
short_of : (way : Way) (from place k : ℕ) → Meets way from place (suc k) → moves_short_of way from place ≡ k
short_of way from place k h1 = grind (arith, nat_tests, common_steps)

-- earlier moves lead to earlier places
earlier : (way : Way) (from base i j k m : ℕ) → Meets way from (base + i) (suc k)
    → Meets way from (base + j) (suc m) → m < k → is_past way j i ≡ true
earlier way from base i j k m h1 h2 h3 = grind (arith, nat_tests, common_steps)

within : (way : Way) (from base i k m : ℕ) → i < 64 → Meets way from (base + i) (suc k) → m < k
    → m < moves_before way from (far way base)
within way from base i k m h1 h2 h3 = grind (arith, nat_tests, common_steps)

module _ (t : Trail) (way : Way) (from base n found : ℕ) (is : IsFound t way from base n found) where
  -- none of the bits is set
  pub found_none : found ≡ 0 → IsClear t (moves_before way from (far way base))
  found_none none k h = by_place (cases_lt k n)
    where
      by_place : (k < n) ⊎ (n ≤ k) → halts t k ≡ false
      by_place (inl l) = is.clear k l
      by_place (inr l) = let at = is.here k l h in
          sym (is.bits at.0 k at.1 at.2) ∙ ap (λ (m : ℕ). is_set m at.0) none ∙ set_none at.0

  -- the first that is set
  pub found_halt : (rule : Corner) (marks : ℕ) → TellMoves (shows_mark rule t) way from base marks
      → (bit : ℕ) (marked : Bool) → bit < 64 → is_set found bit ≡ true
      → ((j : ℕ) → j < 64 → is_past way j bit ≡ true → is_set found j ≡ false)
      → marked ≡ nat_eq (bit_and (marks / 2 ^ bit) 1) 1
      → Halts rule t (moves_short_of way from (base + bit)) marked
  found_halt rule marks shown bit marked small set first known =
      let there = is.past bit small set in
      subst (λ (k : ℕ). Halts rule t k marked) (sym (short_of way from (base + bit) there.0 there.1))
      (record {
        clear = λ m h. by_place there.0 there.1 m h (cases_lt m n);
        here = sym (is.bits bit there.0 small there.1) ∙ set;
        shown = known ∙ ap (λ (b : ℕ). nat_eq b 1) (shr_and_one marks bit) ∙ shown bit there.0 small there.1;
      })
    where
      by_place : (k : ℕ) → Meets way from (base + bit) (suc k) → (m : ℕ) → m < k → (m < n) ⊎ (n ≤ m)
          → halts t m ≡ false
      by_place k at m h (inl l) = is.clear m l
      by_place k at m h (inr l) =
          let its = is.here m l (within way from base bit k m small at h) in
          sym (is.bits its.0 m its.1 its.2)
          ∙ first its.0 its.1 (earlier way from base bit its.0 k m at its.2 h)

-- where the i-th word begins and ends
begins : (way : Way) (start i : ℕ) → i < 8 → near way (start + nth_word way i * 64) ≡ edge_before way start i
begins way start i h1 = grind (arith, nat_tests, common_steps)

pub ends : (way : Way) (start i : ℕ) → i < 8
    → far way (start + nth_word way i * 64) ≡ edge_before way start (i + 1)
ends way start i h1 = grind (arith, nat_tests, common_steps)

pub ahead_later : (way : Way) (from start i n : ℕ) → i ≤ n → IsAhead way from (edge_before way start i)
    → IsAhead way from (edge_before way start n)
ahead_later way from start i n h1 h2 = grind (arith, nat_tests, common_steps)

-- past an edge, a word's bits are those of moves
moves_there : (way : Way) (from base : ℕ) → IsAhead way from (near way base) → (j : ℕ) → j < 64
    → (k : ℕ) × Meets way from (base + j) (suc k)
moves_there Forward from base a j h = (base + j - (from + 1), omega arith)
moves_there Back from base a j h = (from - (base + j + 1), omega arith)

places_there : (way : Way) (from base : ℕ) → IsAhead way from (near way base) → (k : ℕ)
    → moves_before way from (near way base) ≤ k → k < moves_before way from (far way base)
    → (j : ℕ) × (j < 64) × Meets way from (base + j) (suc k)
places_there Forward from base a k h l = (from + suc k - base, omega arith, omega arith)
places_there Back from base a k h l = (from - (base + suc k), omega arith, omega arith)

-- a word that the way comes to from another
pub found_further : (t : Trail) (way : Way) (from base found : ℕ) (w last : ThreeWords)
    → AreWordsOf t way from base w
    → IsAhead way from (near way base) → HasPassed t way from (near way base) last
    → TellTrails halts way w last found
    → IsFound t way from base (moves_before way from (near way base)) found
found_further t way from base found w last are ahead passed known =
    grind (arith, nat_tests, common_steps, moves_there, places_there)

pub passed_further : (t : Trail) (way : Way) (from base found : ℕ) (w last : ThreeWords)
    → AreWordsOf t way from base w → IsAhead way from (near way base)
    → HasPassed t way from (near way base) last
    → TellTrails halts way w last found → found ≡ 0 → HasPassed t way from (far way base) w
passed_further t way from base found w last are ahead passed known none = record {
  edges = edges_of t way from base w are;
  clear = found_none t way from base (moves_before way from (near way base)) found
      (found_further t way from base found w last are ahead passed known) none;
}

-- the i-th word of a block
module _ (t : Trail) (way : Way) (from start i n found : ℕ) (b : Block) (w last : ThreeWords)
    (block : IsBlockOf t way from start i b) (low : i ≤ n) (high : n < 8)
    (words : w ≡ words_of b (nth_word way n)) (ahead : IsAhead way from (edge_before way start i))
    (passed : HasPassed t way from (edge_before way start n) last)
    (known : TellTrails halts way w last found) where
  base : ℕ
  base = start + nth_word way n * 64

  are : AreWordsOf t way from (start + nth_word way n * 64) w
  are = rw words (block n low high)

  ahead_here : IsAhead way from (near way (start + nth_word way n * 64))
  ahead_here = rw (begins way start n high) (ahead_later way from start i n low ahead)

  passed_here : HasPassed t way from (near way (start + nth_word way n * 64)) last
  passed_here = rw (begins way start n high) passed

  pub nth_found : IsFound t way from (start + nth_word way n * 64)
      (moves_before way from (near way (start + nth_word way n * 64))) found
  nth_found = found_further t way from (start + nth_word way n * 64) found w last are ahead_here
      passed_here known

  pub nth_marks : (rule : Corner) (marks : ℕ) → TellTrails (shows_mark rule) way w last marks
      → TellMoves (shows_mark rule t) way from (start + nth_word way n * 64) marks
  nth_marks rule marks shown = shown t from (start + nth_word way n * 64) are passed_here.edges

  pub nth_passed : found ≡ 0 → HasPassed t way from (edge_before way start (n + 1)) w
  nth_passed none = rw (← ends way start n high)
      (passed_further t way from (start + nth_word way n * 64) found w last are ahead_here passed_here
      known none)

-- a side that is as it was before does not open
steady : (a b c : Bool) → a ≡ c → b ≡ c → false ≡ (not a && b)
steady a b c e f = grind arith

none_opened : (way : Way) (word last : ℕ) (set : Bool) → is_set last (last_bit way) ≡ set
    → ((j : ℕ) → j < 64 → is_set word j ≡ set) → IsOpened way word last 0
none_opened Forward word last set ends same side from base here edge zero k h m =
    set_none 0
    ∙ steady (side k) (side (suc k)) set (sym (edge k (omega arith)) ∙ ends)
    (sym (here 0 (suc k) h m) ∙ same 0 h)
none_opened Forward word last set ends same side from base here edge (suc j) k h m =
    grind (arith, nat_tests, common_steps, set_none, steady)
none_opened Back word last set ends same side from base here edge j k h m =
    set_none j
    ∙ steady (side k) (side (suc k)) set (by_place (cases_lt j 63)) (sym (here j (suc k) h m) ∙ same j h)
  where
    by_place : (j < 63) ⊎ (63 ≤ j) → side k ≡ set
    by_place (inl l) = sym (here (suc j) k (omega arith) (omega arith)) ∙ same (suc j) (omega arith)
    by_place (inr l) = sym (edge k (omega arith)) ∙ ends

-- a block whose cells are all free, and beside which all is as it was before
module _ (t : Trail) (way : Way) (from start : ℕ) (b : Block) (last : ThreeWords)
    (block : IsBlockOf t way from start 0 b) (ahead : IsAhead way from (edge_before way start 0))
    (passed : HasPassed t way from (edge_before way start 0) last) (free : IsAllAs true b.middle.now)
    (before : IsAllAs (is_set last.before (last_bit way)) b.before.now)
    (after : IsAllAs (is_set last.after (last_bit way)) b.after.now) where
  abbrev words_before : ℕ → ThreeWords
  words_before zero = last
  words_before (suc i) = words_of b (nth_word way i)

  last_bit_small : (way : Way) → last_bit way < 64
  last_bit_small way = grind (arith, nat_tests, common_steps)

  before_ends : (i : ℕ) → i ≤ 8
      → is_set (words_before i).before (last_bit way) ≡ is_set last.before (last_bit way)
  before_ends i h1 = grind (arith, nat_tests, common_steps, nth_small, last_bit_small)

  after_ends : (i : ℕ) → i ≤ 8
      → is_set (words_before i).after (last_bit way) ≡ is_set last.after (last_bit way)
  after_ends i h1 = grind (arith, nat_tests, common_steps, nth_small, last_bit_small)

  none_halts : (i : ℕ) → i < 8 → TellTrails halts way (words_of b (nth_word way i)) (words_before i) 0
  none_halts i h t from first its edges j k l m =
      let w : ℕ = nth_word way i in
      let small = nth_small way i h in
      halts_there 0 0 (slice_index_or b.middle.now w 0) j t k
      (set_none j ∙ sym (ap not (free w j small l))) (its.middle j (suc k) l m)
      (either_there 0 0 j _ _
      (none_opened way (slice_index_or b.before.now w 0) (words_before i).before _
      (before_ends i (omega arith))
      (λ j. before w j small) t.before from first its.before edges.before j k l m)
      (none_opened way (slice_index_or b.after.now w 0) (words_before i).after _
      (after_ends i (omega arith))
      (λ j. after w j small) t.after from first its.after edges.after j k l m))

  passed_to : (i : ℕ) → i ≤ 8 → HasPassed t way from (edge_before way start i) (words_before i)
  passed_to zero h = passed
  passed_to (suc i) h =
      let one_more : i + 1 ≡ suc i = omega arith in
      subst (λ (n : ℕ). HasPassed t way from (edge_before way start n) (words_of b (nth_word way i))) one_more
      (nth_passed t way from start 0 i 0 b (words_of b (nth_word way i)) (words_before i) block (omega arith)
      (omega arith) refl ahead (passed_to i (omega arith)) (none_halts i (omega arith)) refl)

  pub passed_whole : HasPassed t way from (edge_before way start 8) (words_of b (nth_word way 7))
  passed_whole = passed_to 8 (omega arith)

-- past its start the sides are the trail's own
pub own_later : (way : Way) (r : Corner) (side : ℕ → Bool) (from base word : ℕ)
    → ((j k : ℕ) → j < 64 → Meets way from (base + j) k → (m : ℕ) × (k ≡ suc m))
    → IsWordOf side way from base word → IsWordOf (at_start r side) way from base word
own_later way r side from base word later here j k h m = grind (arith, nat_tests, common_steps)

-- the word in which a scan starts
module _ (t : Trail) (rule : Corner) (way : Way) (base place found halting over : ℕ) (words last : ThreeWords)
    (low : place < 64) (are : AreWordsOf (begun rule t) way (base + place) base words)
    (known : TellTrails halts way words last halting)
    (masked : (j : ℕ) → j < 64 → is_set over j ≡ is_past way place j)
    (found_is : found ≡ bit_and halting over) where
  set_there : (j : ℕ) → j < 64 → is_set found j ≡ (is_set halting j && is_past way place j)
  set_there j h = grind (arith, nat_tests, common_steps, set_and)

  all_past : (way : Way) (base j k : ℕ) → Meets way (base + place) (base + j) (suc k)
      → is_past way place j ≡ true
  all_past way base j k h1 = grind (arith, nat_tests, common_steps)

  moves_past : (way : Way) (base j : ℕ) → is_past way place j ≡ true
      → (k : ℕ) × Meets way (base + place) (base + j) (suc k)
  moves_past Forward base j h =
      let past : place < j = grind (arith, nat_tests) in (j - (place + 1), omega arith)
  moves_past Back base j h =
      let past : j < place = grind (arith, nat_tests) in (place - (j + 1), omega arith)

  places_past : (way : Way) (base k : ℕ) → k < moves_before way (base + place) (far way base)
      → (j : ℕ) × (j < 64) × Meets way (base + place) (base + j) (suc k)
  places_past Forward base k h = (place + suc k, omega arith, omega arith)
  places_past Back base k h = (place - suc k, omega arith, omega arith)

  and_second : (a b : Bool) → (a && b) ≡ true → b ≡ true
  and_second a b h = grind arith

  and_true : (a b : Bool) → b ≡ true → (a && b) ≡ a
  and_true a b h = grind arith

  pub word_found : IsFound (begun rule t) way (base + place) base 0 found
  word_found = record {
    clear = λ k h. absurd (omega arith);
    bits = λ j k h m. set_there j h ∙ and_true _ _ (all_past way base j k m)
        ∙ known (begun rule t) (base + place) base are
        (no_edges (begun rule t) way (base + place) base last (omega arith) (omega arith)) j k h m;
    past = λ j h set. moves_past way base j (and_second _ _ (sym (set_there j h) ∙ set));
    here = λ k l h. places_past way base k h;
  }

  pub word_clear : found ≡ 0 → IsClear (begun rule t) (moves_before way (base + place) (far way base))
  word_clear none = found_none (begun rule t) way (base + place) base 0 found word_found none

pub word_marks : (t : Trail) (rule : Corner) (way : Way) (base place marks : ℕ) (words last : ThreeWords)
    → place < 64 → AreWordsOf (begun rule t) way (base + place) base words
    → TellTrails (shows_mark rule) way words last marks
    → TellMoves (shows_mark rule (begun rule t)) way (base + place) base marks
word_marks t rule way base place marks words last low are shown =
    shown (begun rule t) (base + place) base are
    (no_edges (begun rule t) way (base + place) base last (omega arith) (omega arith))

-- the block in which a scan starts
module _ (t : Trail) (rule : Corner) (way : Way) (start place w : ℕ) (words : ThreeWords) (b : Block)
    (block : IsBlockOf t way (start + w * 64 + place) start 0 b) (low : place < 64) (high : w < 8)
    (are : AreWordsOf (begun rule t) way (start + w * 64 + place) (start + w * 64) words) where
  -- the words after it are the trail's own
  later_words : (way : Way) (n : ℕ) → nth_word way w + 1 ≤ n → n < 8 → (j k : ℕ) → j < 64
      → Meets way (start + w * 64 + place) (start + nth_word way n * 64 + j) k → (m : ℕ) × (k ≡ suc m)
  later_words Forward n a b j k h m = (k - 1, omega arith)
  later_words Back n a b j k h m = (k - 1, omega arith)

  pub block_later : IsBlockOf (begun rule t) way (start + w * 64 + place) start (nth_word way w + 1) b
  block_later n a c =
      let there = block n (omega arith) c in
      record {
        middle = there.middle;
        before = own_later way rule t.before (start + w * 64 + place) (start + nth_word way n * 64) _
            (later_words way n a c) there.before;
        after = own_later way rule t.after (start + w * 64 + place) (start + nth_word way n * 64) _
            (later_words way n a c) there.after;
      }

  -- its own word's far edge
  far_edge : (way : Way) → far way (start + w * 64) ≡ edge_before way start (nth_word way w + 1)
  far_edge way = grind (arith, nat_tests, common_steps)

  pub start_passed : IsClear (begun rule t)
      (moves_before way (start + w * 64 + place) (far way (start + w * 64)))
      → HasPassed (begun rule t) way (start + w * 64 + place) (edge_before way start (nth_word way w + 1))
      words
  start_passed clear = rw (← far_edge way) (record {
    edges = edges_of (begun rule t) way (start + w * 64 + place) (start + w * 64) words are;
    clear = clear;
  })

-- the edge after the word in which a scan starts lies ahead
pub start_ahead : (way : Way) (start w place : ℕ) → place < 64 → w < 8
    → IsAhead way (start + w * 64 + place) (edge_before way start (nth_word way w + 1))
start_ahead way start w place h1 h2 = grind (arith, nat_tests, common_steps)

-- a word of a block by its own number
pub word_there : (t : Trail) (way : Way) (from start w : ℕ) (b : Block) → IsBlockOf t way from start 0 b
    → w < 8
    → AreWordsOf t way from (start + w * 64) (words_of b w)
word_there t way from start w b block h =
    subst (λ (v : ℕ). AreWordsOf t way from (start + v * 64) (words_of b v)) (twice way)
    (block (nth_word way w) (omega arith) (small way))
  where
    twice : (way : Way) → nth_word way (nth_word way w) ≡ w
    twice way = grind (arith, nat_tests, common_steps)

    small : (way : Way) → nth_word way w < 8
    small way = grind (arith, nat_tests, common_steps)

-- the word of the start, by the places that it has
pub own_word : (t : Trail) (way : Way) (from : ℕ) (b : Block) → IsBlockOf t way from (from / 512 * 512) 0 b
    → AreWordsOf t way from (from / 64 * 64) (words_of b (from % 512 / 64))
own_word t way from b block =
    let place : from / 512 * 512 + from % 512 / 64 * 64 ≡ from / 64 * 64 = omega arith in
    subst (λ (base : ℕ). AreWordsOf t way from base (words_of b (from % 512 / 64))) place
    (word_there t way from (from / 512 * 512) (from % 512 / 64) b block (omega arith))
