-- The words around a cell.
use Rattle.std.proofs.lemmas.Bool.Decides.{nat_tests}
use Rattle.std.proofs.lemmas.Grind.{common_steps}
use Rattle.std.proofs.Common.{◌≡◌, ℕ, zero, suc, ◌+◌, ◌-◌, ◌*◌, ◌/◌, ◌%◌, ◌<◌, arith, Bool, true, ◌&&◌, refl}
use Rattle.std.proofs.Common.{ap, sym, ◌∙◌, subst, bit_and}
use Rattle.std.specs.Prelude.{Option, IfSome, is_some}
use Rattle.grid_moves.specs.declared.Cell.{Cell}
use Rattle.grid_moves.specs.declared.Corner.{Corner}
use Rattle.grid_moves.specs.declared.Dir.{Dir}
use Rattle.grid_moves.specs.declared.Dir.TheVariants.{N, NE, E, SE, S, SW, W, NW}
use Rattle.grid_moves.specs.Grid.{GridData, is_free}
use Rattle.grid_moves.specs.Move.{is_passable}
use Rattle.grid_moves.proofs.Besides.{passable-turned}
use Rattle.grid_moves.specs.Bits.{is_set}
use Rattle.grid_moves.proofs.Bits.{set_and}
use Rattle.bit_grid.proofs.Words.{set_raised, set_lowered}
use Rattle.pruning.specs.Turns.{is_diagonal}
use Rattle.pruning.specs.Allowed.{can_move}
use Rattle.jump_block.specs.declared.word.Way.{Way}
use Rattle.jump_block.specs.declared.word.Way.TheVariants.{Forward, Back}
use Rattle.bit_grid.specs.declared.lines.ThreeWords.{ThreeWords}
use Rattle.jump_block.specs.declared.block.Halt.{Halt}
use Rattle.jump_block.specs.Trail.{Trail, IsClear, Halts, halts, shows_mark, begun, trail_on}
use Rattle.jump_block.specs.Scan.{Finds}
use Rattle.jump_block.specs.Word.{AreWordsOf, AreEdgesOf, IsAhead, IsFound, Meets, TellMoves, TellTrails}
use Rattle.jump_block.specs.Word.{far, moves_before, near}
use Rattle.jump_block.specs.Near.{AreNear, HasNextBit, HasNextWord, next_bit, next_word, side_word}
use Rattle.jump_block.specs.declared.straight.Axis.TheVariants.{Row, Column}
use Rattle.jump_block.specs.Source.{by_line, way_on}
use Rattle.jump_block.proofs.Reading.{meets_along}
use Rattle.jump_block.proofs.Blocks.{edges_of, found_further, own_later}
use Rattle.jump_block.proofs.Directions.{is_open_there}
use Rattle.jump_block.proofs.Rings.{leads_by}

-- they are what a trail has there
pub words_trail : (free : ℕ → ℕ → Bool) (way : Way) (line from place : ℕ) (w : ThreeWords)
    → AreNear free line place w
    → AreWordsOf (trail_on free way line from) way from (place / 64 * 64) w
words_trail free way line from place w is = grind (arith, nat_tests, common_steps, meets_along)

-- words by their number, and by a place that they have
pub near_read : (free : ℕ → ℕ → Bool) (line word : ℕ) (w : ThreeWords)
    → ((j : ℕ) → j < 64 → is_set w.middle j ≡ free line (word * 64 + j))
    → ((j : ℕ) → j < 64 → is_set w.before j ≡ free (line - 1) (word * 64 + j))
    → ((j : ℕ) → j < 64 → is_set w.after j ≡ free (line + 1) (word * 64 + j))
    → AreNear free line (word * 64) w
near_read free line word w middle before after = grind (arith, nat_tests, common_steps)

pub near_again : (free : ℕ → ℕ → Bool) (line place : ℕ) (w : ThreeWords)
    → AreNear free line (place / 64 * 64) w → AreNear free line place w
near_again free line place w is = grind (arith, nat_tests, common_steps)

-- from the word of the start the way goes on to the next
edge_there : (way : Way) (word next per_line : ℕ) → HasNextWord way per_line word → next ≡ next_word way word
    → near way (next * 64) ≡ far way (word * 64)
edge_there way word next per_line h1 h2 = grind (arith, nat_tests, common_steps)

edge_ahead : (way : Way) (from : ℕ) → IsAhead way from (far way (from / 64 * 64))
edge_ahead way from = grind (arith, nat_tests, common_steps)

later_there : (way : Way) (from next per_line : ℕ) → HasNextWord way per_line (from / 64)
    → next ≡ next_word way (from / 64) → (j k : ℕ) → j < 64 → Meets way from (next * 64 + j) k
    → (m : ℕ) × (k ≡ suc m)
later_there Forward from next per_line more is j k h m = (k - 1, omega arith)
later_there Back from next per_line more is j k h m = (k - 1, omega arith)

module _ (free : ℕ → ℕ → Bool) (way : Way) (rule : Corner) (line from next per_line found : ℕ)
    (own first words : ThreeWords) (is : AreNear free line from own)
    (begins : (t : Trail) (way : Way) (base : ℕ) → AreWordsOf t way (base + from % 64) base own
    → AreWordsOf (begun rule t) way (base + from % 64) base first)
    (are : AreNear free line (next * 64) words) (more : HasNextWord way per_line (from / 64))
    (follows : next ≡ next_word way (from / 64))
    (known : TellTrails halts way words first found)
    (clear : IsClear (begun rule (trail_on free way line from))
    (moves_before way from (far way (from / 64 * 64)))) where
  first_there : AreWordsOf (begun rule (trail_on free way line from)) way from (from / 64 * 64) first
  first_there =
      let same : from / 64 * 64 + from % 64 ≡ from = omega arith in
      subst (λ (f : ℕ). AreWordsOf (begun rule (trail_on free way line from)) way f (from / 64 * 64) first)
      same (begins (trail_on free way line from) way (from / 64 * 64)
      (subst (λ (f : ℕ). AreWordsOf (trail_on free way line from) way f (from / 64 * 64) own) (sym same)
      (words_trail free way line from from own is)))

  edge_is : near way (next * 64) ≡ far way (from / 64 * 64)
  edge_is = edge_there way (from / 64) next per_line more follows

  next_there : AreWordsOf (begun rule (trail_on free way line from)) way from (next * 64) words
  next_there = grind (arith, nat_tests, common_steps, words_trail, later_there, own_later)

  edges_there : AreEdgesOf (begun rule (trail_on free way line from)) way from (near way (next * 64)) first
  edges_there = rw edge_is
      (edges_of (begun rule (trail_on free way line from)) way from (from / 64 * 64) first first_there)

  pub next_found : IsFound (begun rule (trail_on free way line from)) way from (next * 64)
      (moves_before way from (near way (next * 64))) found
  next_found = found_further (begun rule (trail_on free way line from)) way from (next * 64) found words first
      next_there (rw edge_is (edge_ahead way from))
      (record { edges = edges_there; clear = rw edge_is clear }) known

  pub next_marks : (marks : ℕ) → TellTrails (shows_mark rule) way words first marks
      → TellMoves (shows_mark rule (begun rule (trail_on free way line from))) way from (next * 64) marks
  next_marks marks shown =
      shown (begun rule (trail_on free way line from)) from (next * 64) next_there edges_there

-- what was found is where a scan halts
pub found_some : (rule : Corner) (t : Trail) (found : Option Halt) → is_some found ≡ true
    → IfSome found (λ h. Halts rule t h.passed h.marked) → Finds rule t 0 found
found_some rule t found h1 h2 = grind (arith, nat_tests, common_steps)

-- bits moved by one against the way
pub set_lowered-next : (word j : ℕ) → j < 64 → HasNextBit Forward j
    → is_set (word / 2) j ≡ is_set word (next_bit Forward j)
set_lowered-next word j h more = grind (arith, nat_tests, common_steps, set_lowered)

pub set_raised-next : (word j : ℕ) → j < 64 → HasNextBit Back j
    → is_set (word * 2 % 18446744073709551616) j ≡ is_set word (next_bit Back j)
set_raised-next word zero h more = absurd (omega arith)
set_raised-next word (suc j) h more = grind (arith, nat_tests, common_steps, set_raised)

-- a bit of them together
pub bits_lead : (rule : Corner) (way : Way) (place middle side along passes ahead : ℕ) (b : Bool) → place < 64
    → HasNextBit way place
    → ((j : ℕ) → j < 64 → HasNextBit way j → is_set along j ≡ is_set middle (next_bit way j))
    → ((j : ℕ) → j < 64 → is_set passes j ≡ is_passable rule (is_set side j) (is_set along j))
    → ((j : ℕ) → j < 64 → HasNextBit way j → is_set ahead j ≡ is_set side (next_bit way j))
    → b ≡ is_set (bit_and ahead passes) place
    → b ≡ (is_set side (next_bit way place)
    && is_passable rule (is_set side place) (is_set middle (next_bit way place)))
bits_lead rule way place middle side along passes ahead b h more a p n known =
    known ∙ set_and ahead passes place ∙ rw (n place h more, p place h, a place h more) refl

-- three of their bits tell whether a diagonal move is legal
module _ (g : GridData) (x : Cell) (free : is_free g x ≡ true) (rule : Corner) (same : rule ≡ g.corner)
    (w : ThreeWords)
    (is : AreNear (by_line g Row) (x.y + 1) (x.x + 1) w) where
  abbrev legal_by_bits : ℕ → Dir → Bool
  legal_by_bits place d = is_set (side_word (way_on Column d) w) (next_bit (way_on Row d) place)
      && is_passable rule (is_set (side_word (way_on Column d) w) place)
      (is_set w.middle (next_bit (way_on Row d) place))

  leads_here : (d : Dir) → is_diagonal d ≡ true → HasNextBit (way_on Row d) ((x.x + 1) % 64) → (b : Bool)
      → b ≡ legal_by_bits ((x.x + 1) % 64) d → b ≡ can_move g x d
  leads_here NE diagonal more b known =
      leads_by g x NE free diagonal rule same (is_set w.before ((x.x + 1) % 64 + 1))
      (is_set w.before ((x.x + 1) % 64)) (is_set w.middle ((x.x + 1) % 64 + 1)) _ b
      (is.before ((x.x + 1) % 64 + 1) (omega arith)
      ∙ is_open_there g NE x.x x.y _ _ (omega arith) (omega arith))
      (is.before ((x.x + 1) % 64) (omega arith) ∙ is_open_there g N x.x x.y _ _ (omega arith) (omega arith))
      (is.middle ((x.x + 1) % 64 + 1) (omega arith)
      ∙ is_open_there g E x.x x.y _ _ (omega arith) (omega arith)) refl known
  leads_here SE diagonal more b known =
      leads_by g x SE free diagonal rule same (is_set w.after ((x.x + 1) % 64 + 1))
      (is_set w.middle ((x.x + 1) % 64 + 1)) (is_set w.after ((x.x + 1) % 64)) _ b
      (is.after ((x.x + 1) % 64 + 1) (omega arith)
      ∙ is_open_there g SE x.x x.y _ _ (omega arith) (omega arith))
      (is.middle ((x.x + 1) % 64 + 1) (omega arith)
      ∙ is_open_there g E x.x x.y _ _ (omega arith) (omega arith))
      (is.after ((x.x + 1) % 64) (omega arith) ∙ is_open_there g S x.x x.y _ _ (omega arith) (omega arith))
      (passable-turned rule (is_set w.after ((x.x + 1) % 64)) (is_set w.middle ((x.x + 1) % 64 + 1))) known
  leads_here SW diagonal more b known =
      leads_by g x SW free diagonal rule same (is_set w.after ((x.x + 1) % 64 - 1))
      (is_set w.after ((x.x + 1) % 64)) (is_set w.middle ((x.x + 1) % 64 - 1)) _ b
      (is.after ((x.x + 1) % 64 - 1) (omega arith)
      ∙ is_open_there g SW x.x x.y _ _ (omega arith) (omega arith))
      (is.after ((x.x + 1) % 64) (omega arith) ∙ is_open_there g S x.x x.y _ _ (omega arith) (omega arith))
      (is.middle ((x.x + 1) % 64 - 1) (omega arith)
      ∙ is_open_there g W x.x x.y _ _ (omega arith) (omega arith)) refl known
  leads_here NW diagonal more b known =
      leads_by g x NW free diagonal rule same (is_set w.before ((x.x + 1) % 64 - 1))
      (is_set w.middle ((x.x + 1) % 64 - 1)) (is_set w.before ((x.x + 1) % 64)) _ b
      (is.before ((x.x + 1) % 64 - 1) (omega arith)
      ∙ is_open_there g NW x.x x.y _ _ (omega arith) (omega arith))
      (is.middle ((x.x + 1) % 64 - 1) (omega arith)
      ∙ is_open_there g W x.x x.y _ _ (omega arith) (omega arith))
      (is.before ((x.x + 1) % 64) (omega arith) ∙ is_open_there g N x.x x.y _ _ (omega arith) (omega arith))
      (passable-turned rule (is_set w.before ((x.x + 1) % 64)) (is_set w.middle ((x.x + 1) % 64 - 1))) known
  leads_here N diagonal more b known = absurd (cc)
  leads_here E diagonal more b known = absurd (cc)
  leads_here S diagonal more b known = absurd (cc)
  leads_here W diagonal more b known = absurd (cc)

  pub leads_near : (d : Dir) → is_diagonal d ≡ true → (place : ℕ) → place ≡ (x.x + 1) % 64
      → HasNextBit (way_on Row d) place → (b : Bool) → b ≡ legal_by_bits place d → b ≡ can_move g x d
  leads_near d diagonal place same_place more b known =
      leads_here d diagonal (subst (λ (p : ℕ). HasNextBit (way_on Row d) p) same_place more) b
      (known ∙ ap (λ (p : ℕ). legal_by_bits p d) same_place)
