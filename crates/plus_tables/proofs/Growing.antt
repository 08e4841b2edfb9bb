-- Rows that a loop fills, column by column.
use Rattle.std.proofs.Common.{rules, ◌≡◌, ◌≢◌, ℕ, ◌+◌, ◌-◌, ◌<◌, ◌≤◌, arith, Bool, true, false, ◌&&◌, ◌||◌}
use Rattle.std.proofs.Common.{List, length, refl, ap, ◌∙◌, below_more, get_or-set_other, get_or-set_same, w16}
use Rattle.std.proofs.Common.{to_z, of_z}
use Rattle.std.specs.Prelude.{ℤ, pos, slice_set}
use Rattle.std.proofs.lemmas.List.{get_or_past}
use Rattle.std.proofs.lemmas.Bool.Decides.{nat_tests}
use Rattle.grid_moves.specs.Grid.{GridData, is_free}
use Rattle.grid_moves.proofs.Legal.{free_inside}
use Rattle.plus_tables.specs.Tables.{IsShort}
use Rattle.plus_tables.specs.Local.{tells_mark}
use Rattle.plus_tables.specs.Rows.{flag, number, entry_from, AreShort, IsFlagRow}
use borrow.Rule.Slice.PartMut.{put_mid}
use Rattle.plus_tables.proofs.Short.{same_value}
use Rattle.grid_moves.proofs.Parts.{long_with, read_before, read_behind, read_within}

-- one more flag to the right
pub flag_more : (row : List Bool) (x : ℕ) (b : Bool) (P : ℕ → Bool) → x + 1 < length row
    → ((k : ℕ) → k < x → flag row (k + 1) ≡ P k) → b ≡ P x
    → (k : ℕ) → k < x + 1 → flag (slice_set row (x + 1) b) (k + 1) ≡ P k
flag_more row x b P h i j k l = grind (arith, nat_tests, below_more, get_or-set_other, get_or-set_same)

-- what has been read of a row is the row
pub whole_row : (g : GridData) (y n : ℕ) (row : List Bool) → length row ≡ g.width + 2 → n ≡ g.width
    → flag row 0 ≡ false → flag row (g.width + 1) ≡ false
    → ((k : ℕ) → k < n → flag row (k + 1) ≡ is_free g (record { x = k; y = y })) → IsFlagRow g y row
whole_row g y n row h i j k l = grind (arith, nat_tests, free_inside, get_or_past)

-- a row whose cells are read at once
pub row_read : (g : GridData) (y e : ℕ) (row cells : List Bool) → e ≡ g.width + 1 → length row ≡ g.width + 2
    → length cells ≡ g.width → flag row 0 ≡ false → flag row (g.width + 1) ≡ false
    → ((x : ℕ) → x < g.width → flag cells x ≡ is_free g (record { x = x; y = y }))
    → IsFlagRow g y (put_mid 1 (e - 1) row cells)
row_read g y e row cells end long wide first last read =
    whole_row g y g.width (put_mid 1 (e - 1) row cells)
    (long_with 1 e row cells (omega arith) (omega arith) (omega arith) ∙ long) refl
    (read_before 1 (e - 1) row cells false (omega arith) 0 (omega arith) ∙ first)
    (read_behind 1 (e - 1) row cells false (omega arith) (g.width + 1) (omega arith) (omega arith) ∙ last)
    (λ k h. ap (λ (n : ℕ). flag (put_mid 1 (e - 1) row cells) n) (one_more k)
    ∙ read_within 1 (e - 1) row cells false (omega arith) k (omega arith) ∙ read k h)
  where
    one_more : (k : ℕ) → k + 1 ≡ 1 + k
    one_more k = omega arith

-- a made entry, as it is read
pub entry_from_read : (legal mark : Bool) (next r : ℤ)
    → ((legal ≡ true → IsShort (to_z w16 (of_z w16 next)))
    → r ≡ entry_from legal mark (to_z w16 (of_z w16 next)))
    → (legal ≡ true → IsShort next) → to_z w16 (of_z w16 r) ≡ entry_from legal mark next
entry_from_read legal mark next r h i = grind (arith, nat_tests)

-- and so is the mark beside it
pub entry_from_across : (legal legal_too mark forced diagonal right left : Bool) (next beside across r : ℤ)
    → ((legal_too ≡ true → IsShort (to_z w16 (of_z w16 next))) → r ≡ entry_from legal_too mark
    (to_z w16 (of_z w16 next)))
    → legal_too ≡ legal → mark ≡ (forced || (diagonal && (right || left)))
    → right ≡ tells_mark (to_z w16 (of_z w16 beside)) → left ≡ tells_mark (to_z w16 (of_z w16 across))
    → (legal ≡ true → AreShort next beside across)
    → to_z w16 (of_z w16 r)
    ≡ entry_from legal (forced || (diagonal && (tells_mark beside || tells_mark across)))
    next
entry_from_across legal legal_too mark forced diagonal right left next beside across r h i j k l m =
    search (rules, entry_from_read, to_z, of_z, same_value)

-- a number elsewhere stays
pub number_stays : (row : List ℤ) (x k : ℕ) (v : ℤ) → k ≢ x → number (slice_set row x v) k ≡ number row k
number_stays row x k v other = get_or-set_other row x k v (pos 0) other

-- one more number to the right
pub number_more : (row : List ℤ) (x : ℕ) (v : ℤ) (P : ℕ → ℤ → Type 0) → x + 1 < length row
    → ((k : ℕ) → k < x → P k (number row (k + 1))) → P x v
    → (k : ℕ) → k < x + 1 → P k (number (slice_set row (x + 1) v) (k + 1))
number_more row x v P h i j k l = grind (arith, nat_tests, below_more, number_stays, get_or-set_same)

-- the same where each rests on the one before
pub number_after : (row : List ℤ) (x : ℕ) (v : ℤ) (P : ℕ → ℤ → ℤ → Type 0) → x + 1 < length row
    → ((k : ℕ) → k < x → P k (number row k) (number row (k + 1))) → P x (number row x) v
    → (k : ℕ) → k < x + 1
    → P k (number (slice_set row (x + 1) v) k) (number (slice_set row (x + 1) v) (k + 1))
number_after row x v P h i j k l = grind (arith, nat_tests, below_more, number_stays, get_or-set_same)

-- and from the right end, where each rests on the one behind
pub number_before : (row : List ℤ) (x n : ℕ) (v : ℤ) (P : ℕ → ℤ → ℤ → Type 0) → x + 1 < length row
    → ((k : ℕ) → x + 1 ≤ k → k < n → P k (number row (k + 2)) (number row (k + 1))) → P x
    (number row (x + 2)) v
    → (k : ℕ) → x ≤ k → k < n
    → P k (number (slice_set row (x + 1) v) (k + 2)) (number (slice_set row (x + 1) v) (k + 1))
number_before row x n v P h i j k l m = grind (arith, nat_tests, number_stays, get_or-set_same)
