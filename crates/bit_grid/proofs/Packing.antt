-- Words of bits, one after the other.
use Rattle.std.proofs.Common.{◌≡◌, ℕ, zero, suc, ◌+◌, ◌*◌, ◌/◌, ◌%◌, ◌<◌, ◌≤◌, ◌⊎◌, inl, inr, arith, Bool}
use Rattle.std.proofs.Common.{false, refl, ap, sym, ◌∙◌, subst, List, [], ◌∷◌, ◌++◌, length, length-append}
use Rattle.std.proofs.Common.{slice_index_or}
use Rattle.std.proofs.lemmas.Bool.Decides.{nat_tests}
use Rattle.grid_moves.specs.declared.Corner.{Corner}
use Rattle.grid_moves.specs.Grid.{GridData, IsGrid, is_free, is_inside}
use Rattle.std.proofs.lemmas.List.{get_or_append_left}
use Rattle.std.proofs.Math.Seq.{get_or-append_seam}
use Rattle.std.proofs.lemmas.Nat.{div-mul-add, mod-mul-add, mul-add-lt}
use Rattle.std.proofs.lemmas.Bool.{cases_lt}
use Rattle.grid_moves.specs.Bits.{is_set}
use Rattle.bit_grid.specs.Bits.{LineData, BitData, Shows, AreBitsOf, AreRowsOf, AreColumnsOf, HasRoom}
use Rattle.bit_grid.specs.Bits.{is_free_from_one}
use Rattle.bit_grid.specs.Pack.{is_free_in, IsBordered}
use Rattle.bit_grid.specs.Turn.{ArePackedSoFar}
use Rattle.grid_moves.proofs.Bits.{set_none}

-- the flags of a row's first cells
abbrev pub AreFirst : GridData → ℕ → ℕ → List ℕ → Type 0
AreFirst g y cells bytes = (x : ℕ) → x < cells → is_set (slice_index_or bytes (suc x) 0) 0
    ≡ is_free g (record { x = x; y = y })

-- the border's rows
pub flags_none : (g : GridData) (line : ℕ) (bytes : List ℕ) (n : ℕ)
    → ((p : ℕ) → p < n → slice_index_or bytes p 0 ≡ 0) → ((p : ℕ) → is_free_in g line p ≡ false)
    → (p : ℕ) → p < n → is_set (slice_index_or bytes p 0) 0 ≡ is_free_in g line p
flags_none g line bytes n zeros blocked p h = ap (λ (m : ℕ). is_set m 0) (zeros p h) ∙ set_none 0
    ∙ sym (blocked p)

pub top_blocked : (g : GridData) (p : ℕ) → is_free_in g 0 p ≡ false
top_blocked g zero = refl
top_blocked g (suc p) = refl

-- no row beyond the last has a free cell
pub beyond_rows : (g : GridData) (line place : ℕ) → g.height + 1 ≤ line
    → is_free_from_one g place line ≡ false
beyond_rows g line zero h = refl
beyond_rows g zero (suc place) h = refl
beyond_rows g (suc line) (suc place) h =
    let none : is_inside g (record { x = place; y = line }) ≡ false = grind (arith, nat_tests) in
    outside place line none
  where
    outside : (x y : ℕ) → is_inside g (record { x = x; y = y }) ≡ false
        → is_free g (record { x = x; y = y }) ≡ false
    outside x y e = rw e refl

-- columns that are turned from a grid's rows are the grid's
columns_turned : (g : GridData) (rows columns : LineData) (wide high : ℕ) → wide ≡ g.width → high ≡ g.height
    → AreRowsOf rows g
    → ((free : ℕ → ℕ → Bool) → Shows rows high wide free
    → ((line place : ℕ) → high + 2 ≤ line → free line place ≡ false)
    → Shows columns wide high (λ line place. free place line))
    → AreColumnsOf columns g
columns_turned g rows columns wide high w h are turned =
    let shown = subst (λ (n : ℕ). Shows rows n wide (is_free_in g)) (sym h)
    (subst (λ (n : ℕ). Shows rows g.height n (is_free_in g)) (sym w) are) in
    let shows =
    turned (is_free_in g) shown (λ line place k. beyond_rows g line place (omega (arith, h, k))) in
    subst (λ (n : ℕ). Shows columns n g.height (is_free_from_one g)) w
    (subst (λ (n : ℕ). Shows columns wide n (is_free_from_one g)) h shows)

-- so the rows and these columns are its bits
pub bits_turned : (g : GridData) (rows columns : LineData) (wide high : ℕ) (rule : Corner) → IsGrid g
    → wide ≡ g.width
    → high ≡ g.height → rule ≡ g.corner → AreRowsOf rows g
    → ((free : ℕ → ℕ → Bool) → Shows rows high wide free
    → ((line place : ℕ) → high + 2 ≤ line → free line place ≡ false)
    → Shows columns wide high (λ line place. free place line))
    → AreBitsOf (record { width = wide; height = high; corner = rule; rows = rows; columns = columns }) g
bits_turned g rows columns wide high rule whole w h r are turned = record {
  whole = whole;
  wide = w;
  high = h;
  rule = r;
  rows = are;
  columns = columns_turned g rows columns wide high w h are turned;
}

-- a grid's rows have a bit for each column, and its columns one for each row
pub has_room : (b : BitData) (g : GridData) → AreBitsOf b g → HasRoom b
has_room b g are =
    let wide = are.wide in
    let high = are.high in
    let rows = are.rows.bordered in
    let columns = are.columns.bordered in
    let long = are.rows.ample in
    let deep = are.columns.ample in
    record {
      rows = omega (arith, rows, high);
      columns = omega (arith, columns, wide);
      in_rows = omega (arith, long, wide);
      in_columns = omega (arith, deep, high);
    }

pub end_blocked : (g : GridData) (line p : ℕ) → g.height < line → is_free_in g line p ≡ false
end_blocked g line p h = beyond_rows g line p (omega arith)

pub lines_more : (y height per_line : ℕ) → y ≡ height → (y + 1) * per_line + per_line ≡ (height + 2)
    * per_line
lines_more y height per_line e = rw e (omega arith)

pub packed_none : (free : ℕ → ℕ → Bool) (per_line : ℕ) (words : List ℕ) → words ≡ []
    → ArePackedSoFar free per_line words
packed_none free per_line words none m h =
    absurd (let long : length words ≡ 0 = ap (λ (ws : List ℕ). length ws) none in
    omega (arith, h, long))

pub zeros_bordered : (g : GridData) (bytes : List ℕ) (n : ℕ) → length bytes ≡ n → 0 < n
    → ((p : ℕ) → p < n → slice_index_or bytes p 0 ≡ 0) → IsBordered g bytes
zeros_bordered g bytes n long some zeros = (zeros 0 some, λ p h k. zeros p (rw (← long) k))

-- a further word
pub packed_further : (free : ℕ → ℕ → Bool) (per_line line w word : ℕ) (words : List ℕ)
    → length words ≡ line * per_line + w → w < per_line
    → ((j : ℕ) → j < 64 → is_set word j ≡ free line (w * 64 + j))
    → ArePackedSoFar free per_line words → ArePackedSoFar free per_line (words ++ word ∷ [])
packed_further free per_line line w word words long few shown so_far m h j k =
    by_place (cases_lt m (length words))
  where
    one_more : length (words ++ word ∷ []) ≡ length words + 1
    one_more = length-append words (word ∷ [])

    by_place : (m < length words) ⊎ (length words ≤ m)
        → is_set (slice_index_or (words ++ word ∷ []) m 0) j ≡ free (m / per_line) (m % per_line * 64 + j)
    by_place (inl l) =
        ap (λ (n : ℕ). is_set n j) (get_or_append_left words (word ∷ []) 0 m l) ∙ so_far m l j k
    by_place (inr l) =
        let last : m ≡ length words = omega (arith, one_more) in
        let at : m ≡ line * per_line + w = last ∙ long in
        ap (λ (n : ℕ). is_set n j) (ap (λ (n : ℕ). slice_index_or (words ++ word ∷ []) n 0) last
        ∙ get_or-append_seam words word [] 0)
        ∙ shown j k
        ∙ sym (rw (at, div-mul-add line per_line w few, mod-mul-add line per_line w few) refl)

-- so each line is as it is to be
pub packed_lines : (free : ℕ → ℕ → Bool) (lines per_line : ℕ) (words : List ℕ)
    → length words ≡ lines * per_line → ArePackedSoFar free per_line words
    → (line w : ℕ) → line < lines → w < per_line → (j : ℕ) → j < 64
    → is_set (slice_index_or words (line * per_line + w) 0) j ≡ free line (w * 64 + j)
packed_lines free lines per_line words long so_far line w h k j l =
    let within : line * per_line + w < per_line * lines = mul-add-lt line per_line w lines h k in
    let inside : line * per_line + w < length words = omega arith in
    so_far (line * per_line + w) inside j l
    ∙ rw (div-mul-add line per_line w k, mod-mul-add line per_line w k) refl
