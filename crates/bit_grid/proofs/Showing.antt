-- Lines that show a map: a block of them, and one bit set.
use Rattle.std.proofs.Common.{◌≡◌, ◌≢◌, ℕ, zero, suc, ◌+◌, ◌-◌, ◌*◌, ◌/◌, ◌%◌, ◌<◌, ◌≤◌, arith, Bool, true}
use Rattle.std.proofs.Common.{false, ◌&&◌, refl, ap, sym, ◌∙◌, List, length, slice_index_or, slice_set}
use Rattle.std.proofs.Common.{nat_eq, get_or-set_same, get_or-set_other}
use Rattle.std.specs.Prelude.{if◌then◌else◌}
use Rattle.std.proofs.lemmas.Nat.{same_from_place, mul-add-lt}
use Rattle.std.proofs.lemmas.Bool.Decides.{nat_tests}
use Rattle.grid_moves.specs.declared.Cell.{Cell}
use Rattle.grid_moves.specs.Grid.{GridData, IsGrid, is_free, is_inside, grid_with}
use Rattle.grid_moves.proofs.Edited.{is_free-with_same, is_free-with_other}
use Rattle.grid_moves.specs.Bits.{is_set}
use Rattle.bit_grid.specs.Bits.{LineData, BitData, Shows, AreBitsOf, IsOnMap, with_cell, is_free_from_one}

-- the eight words of a block, and of the same block in the line before and in the one after
pub block_inside : (lines blocks line index start : ℕ) (words : List ℕ) → length words ≡ lines * (blocks * 8)
    → line < lines → index < blocks → start ≡ (line * blocks + index) * 8 → start + 8 ≤ length words
block_inside lines blocks line index start words whole a b s =
    let within : line * blocks + index < blocks * lines = mul-add-lt line blocks index lines a b in
    omega (arith, within, whole, s)

pub block_before : (line blocks index : ℕ) → 1 ≤ line
    → line * (blocks * 8) + index * 8 - blocks * 8 ≡ ((line - 1) * blocks + index) * 8
block_before zero blocks index h = absurd (omega arith)
block_before (suc n) blocks index h =
    let one_less : suc n - 1 ≡ n = omega arith in
    rw one_less (omega arith)

pub lane_shown : (l : LineData) (line index lines positions : ℕ) (free : ℕ → ℕ → Bool)
    → Shows l lines positions free → line < l.lines → index < l.blocks → (start : ℕ) (words eight : List ℕ)
    → start ≡ (line * l.blocks + index) * 8 → words ≡ l.words
    → ((k : ℕ) → k < 8 → slice_index_or eight k 0 ≡ slice_index_or words (start + k) 0)
    → (k j : ℕ) → k < 8 → j < 64 → is_set (slice_index_or eight k 0) j ≡ free line (index * 512 + k * 64 + j)
lane_shown l line index lines positions free shows a b start words eight s is same k j h i =
    let place : start + k ≡ line * (l.blocks * 8) + (index * 8 + k) = omega (arith, s) in
    let within : index * 8 + k < l.blocks * 8 = omega arith in
    let position : (index * 8 + k) * 64 + j ≡ index * 512 + k * 64 + j = omega arith in
    ap (λ (n : ℕ). is_set n j) (same k h
    ∙ ap (λ (m : ℕ). slice_index_or words m 0) place
    ∙ ap (λ (ws : List ℕ). slice_index_or ws (line * (l.blocks * 8) + (index * 8 + k)) 0) is)
    ∙ shows.bits line (index * 8 + k) j a within i
    ∙ ap (λ (p : ℕ). free line p) position

-- a word of a line
pub word_inside : (lines blocks line w : ℕ) (words : List ℕ) → length words ≡ lines * (blocks * 8)
    → line < lines → w < blocks * 8 → line * (blocks * 8) + w < length words
word_inside lines blocks line w words whole a b =
    let within : line * (blocks * 8) + w < blocks * 8 * lines = mul-add-lt line (blocks * 8) w lines a b in
    omega (arith, within, whole)

-- its place in the line before and in the one after
pub place_before : (line per_line w : ℕ) → 1 ≤ line → line * per_line + w - per_line ≡ (line - 1)
    * per_line + w
place_before zero per_line w h = absurd (omega arith)
place_before (suc n) per_line w h =
    let more : suc n * per_line ≡ n * per_line + per_line = omega arith in
    let one_less : suc n - 1 ≡ n = omega arith in
    rw (one_less, more) (omega arith)

pub place_after : (line per_line w : ℕ) → line * per_line + w + per_line ≡ (line + 1) * per_line + w
place_after line per_line w = omega arith

pub word_shown : (l : LineData) (lines positions : ℕ) (free : ℕ → ℕ → Bool) → Shows l lines positions free
    → (line w place value j : ℕ) → line < l.lines → w < l.blocks * 8 → j < 64
    → place ≡ line * (l.blocks * 8) + w → value ≡ slice_index_or l.words place 0
    → is_set value j ≡ free line (w * 64 + j)
word_shown l lines positions free shows line w place value j a b h at is =
    ap (λ (n : ℕ). is_set n j) (is ∙ ap (λ (p : ℕ). slice_index_or l.words p 0) at)
    ∙ shows.bits line w j a b h

-- a position's word is one of the line's
pub place_below : (lines blocks line position : ℕ) (words : List ℕ) → length words ≡ lines * (blocks * 8)
    → line < lines → position < blocks * 512 → line * (blocks * 8) + position / 64 < length words
place_below lines blocks line position words whole a b =
    let in_line : position / 64 < blocks * 8 = omega arith in
    let within : line * (blocks * 8) + position / 64 < blocks * 8 * lines =
    mul-add-lt line (blocks * 8) (position / 64) lines a in_line in
    omega (arith, within, whole)

module _ (l : LineData) (lines positions : ℕ) (shown : ℕ → ℕ → Bool) (shows : Shows l lines positions shown)
    (line position word place : ℕ) (free : Bool) (a : line < l.lines) (b : position < l.blocks * 512)
    (whole : length l.words ≡ l.lines * (l.blocks * 8))
    (at : place ≡ line * (l.blocks * 8) + position / 64)
    (is : (j : ℕ) → j < 64 → is_set word j
    ≡ (if nat_eq j (position % 64) then free else is_set (slice_index_or l.words place 0) j)) where
  -- the line after a bit of it was set
  abbrev edited : LineData
  edited = record { lines = l.lines; blocks = l.blocks; words = slice_set l.words place word }

  in_line : position / 64 < l.blocks * 8
  in_line = omega arith

  on_place : place < length l.words
  on_place = rw at (place_below l.lines l.blocks line position l.words whole a b)

  -- its word, and the others
  bits_there : (j : ℕ) → j < 64
      → is_set (slice_index_or (slice_set l.words place word) (line * (l.blocks * 8) + position / 64) 0) j
      ≡ with_cell shown line position free line (position / 64 * 64 + j)
  bits_there j k =
      let same : (nat_eq line line && nat_eq (position / 64 * 64 + j) position) ≡ nat_eq j (position % 64) =
      grind (arith, nat_tests) in
      ap (λ (m : ℕ). is_set (slice_index_or (slice_set l.words place word) m 0) j) (sym at)
      ∙ ap (λ (n : ℕ). is_set n j) (get_or-set_same l.words place word 0 on_place)
      ∙ is j k
      ∙ ap (λ (b : Bool). if nat_eq j (position % 64) then free else b)
      (ap (λ (m : ℕ). is_set (slice_index_or l.words m 0) j) at ∙ shows.bits line (position / 64) j a
      in_line k)
      ∙ ap (λ (b : Bool). if b then free else shown line (position / 64 * 64 + j)) (sym same)

  bits_elsewhere : (m w j : ℕ) → m < l.lines → w < l.blocks * 8 → j < 64
      → (m * (l.blocks * 8) + w ≢ place)
      → is_set (slice_index_or (slice_set l.words place word) (m * (l.blocks * 8) + w) 0) j
      ≡ with_cell shown line position free m (w * 64 + j)
  bits_elsewhere m w j c d e apart =
      ap (λ (n : ℕ). is_set n j) (get_or-set_other l.words place (m * (l.blocks * 8) + w) word 0 apart)
      ∙ shows.bits m w j c d e
      ∙ ap (λ (b : Bool). if b then free else shown m (w * 64 + j))
      (sym (by_test (nat_eq m line && nat_eq (w * 64 + j) position) refl))
    where
      by_test : (b : Bool) → (nat_eq m line && nat_eq (w * 64 + j) position) ≡ b
          → (nat_eq m line && nat_eq (w * 64 + j) position) ≡ false
      by_test false f = f
      by_test true f = absurd (let one : m ≡ line = grind (arith, nat_tests) in
          let there : w * 64 + j ≡ position = grind (arith, nat_tests) in
          let its_word : w ≡ position / 64 = omega arith in
          apart (rw (one, its_word) (sym at)))

  pub set_shown : Shows edited lines positions (with_cell shown line position free)
  set_shown = record {
    bordered = shows.bordered;
    ample = shows.ample;
    tight = shows.tight;
    bits = λ m w j c d e. by_place m w j c d e (nat_eq (m * (l.blocks * 8) + w) place) refl;
  }
    where
      by_place : (m w j : ℕ) → m < l.lines → w < l.blocks * 8 → j < 64
          → (b : Bool) → nat_eq (m * (l.blocks * 8) + w) place ≡ b
          → is_set (slice_index_or (slice_set l.words place word) (m * (l.blocks * 8) + w) 0) j
          ≡ with_cell shown line position free m (w * 64 + j)
      by_place m w j c d e true f =
          let there : m * (l.blocks * 8) + w ≡ place = grind (arith, nat_tests) in
          let one = same_from_place m w line (position / 64) (l.blocks * 8) d in_line (there ∙ at) in
          rw (one.0, one.1) (bits_there j e)
      by_place m w j c d e false f = bits_elsewhere m w j c d e (λ same. grind (arith, nat_tests))

-- what is shown follows from its cells alone
pub shows_alike : (l : LineData) (lines positions : ℕ) (free now : ℕ → ℕ → Bool)
    → ((line position : ℕ) → free line position ≡ now line position)
    → Shows l lines positions free → Shows l lines positions now
shows_alike l lines positions free now same shows = record {
  bordered = shows.bordered;
  ample = shows.ample;
  tight = shows.tight;
  bits = λ line w j a b c. shows.bits line w j a b c ∙ same line (w * 64 + j);
}

-- a cell of a grid whose bits these are lies on their map
pub on_map : (b : BitData) (g : GridData) (c : Cell) → AreBitsOf b g → is_inside g c ≡ true → IsOnMap b c
on_map b g c are inside =
    let wide = are.wide in
    let high = are.high in
    let column : c.x < g.width = grind (arith, nat_tests) in
    let row : c.y < g.height = grind (arith, nat_tests) in
    record { column = omega (arith, wide, column); row = omega (arith, high, row) }

-- the edited grid, cell by cell
pub is_free-edited : (g : GridData) (c : Cell) (free : Bool) → IsGrid g → is_inside g c ≡ true → (x y : ℕ)
    → (if nat_eq y (c.y + 1) && nat_eq x (c.x + 1) then free else is_free_from_one g x y)
    ≡ is_free_from_one (grid_with g c free) x y
is_free-edited g c free whole inside zero y = rw (never (nat_eq y (c.y + 1)) c.x) refl
  where
    never : (b : Bool) (n : ℕ) → (b && nat_eq 0 (n + 1)) ≡ false
    never b n = grind (arith, nat_tests)
is_free-edited g c free whole inside (suc x) zero = rw (never (nat_eq (suc x) (c.x + 1)) c.y) refl
  where
    never : (b : Bool) (n : ℕ) → (nat_eq 0 (n + 1) && b) ≡ false
    never b n = grind (arith, nat_tests)
is_free-edited g c free whole inside (suc x) (suc y) =
    by_test (nat_eq (suc y) (c.y + 1) && nat_eq (suc x) (c.x + 1)) refl
  where
    at : Cell
    at = record { x = x; y = y }

    by_test : (b : Bool) → (nat_eq (suc y) (c.y + 1) && nat_eq (suc x) (c.x + 1)) ≡ b
        → (if b then free else is_free g (record { x = x; y = y }))
        ≡ is_free (grid_with g c free) (record { x = x; y = y })
    by_test true e =
        let column : x ≡ c.x = grind (arith, nat_tests) in
        let row : y ≡ c.y = grind (arith, nat_tests) in
        sym (rw (column, row) (is_free-with_same g c free whole inside))
    by_test false e = sym (is_free-with_other g c (record { x = x; y = y }) free inside
        (λ same. let column = ap (λ (v : Cell). v.x) same in let row = ap (λ (v : Cell). v.y) same in
        grind (arith, nat_tests)))

-- the same with line and position exchanged
pub is_free-edited_turned : (g : GridData) (c : Cell) (free : Bool) → IsGrid g → is_inside g c ≡ true
    → (x y : ℕ)
    → (if nat_eq x (c.x + 1) && nat_eq y (c.y + 1) then free else is_free_from_one g x y)
    ≡ is_free_from_one (grid_with g c free) x y
is_free-edited_turned g c free whole inside x y =
    ap (λ (b : Bool). if b then free else is_free_from_one g x y)
    (turned (nat_eq x (c.x + 1)) (nat_eq y (c.y + 1)))
    ∙ is_free-edited g c free whole inside x y
  where
    turned : (a b : Bool) → (a && b) ≡ (b && a)
    turned a b = grind arith
