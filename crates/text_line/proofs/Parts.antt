-- The first field of a line.
use Rattle.std.proofs.Common.{◌≡◌, ℕ, zero, suc, ◌<◌, Bool, true, false, not, List, [], ◌∷◌, length, get_or}
use Rattle.std.proofs.Common.{take, drop, None, refl, arith}
use Rattle.std.specs.Prelude.{position}
use Rattle.std.specs.List.{slice_split}
use Rattle.std.proofs.lemmas.Bool.{cases_Bool, ltb-false}
use Rattle.std.proofs.lemmas.List.Sums.{fails_before_first}
use Rattle.text_line.specs.Fields.{is_blank_byte}

-- where no place passes, none does
pub position-None : (p : ℕ → Bool) (xs : List ℕ) → position p xs ≡ None → (k : ℕ) → k < length xs
    → p (get_or xs k 0) ≡ false
position-None p xs none k lt = grind (arith, cases_Bool, fails_before_first, ltb-false)

-- whether a byte belongs to a field
abbrev pub is_filled : ℕ → Bool
is_filled byte = not (is_blank_byte byte)

-- the parts of a line up to the first blank, and after it
pub parts_of_cut : (line : List ℕ) (end : ℕ) → end < length line
    → ((k : ℕ) → k < end → is_blank_byte (get_or line k 0) ≡ false) → is_blank_byte (get_or line end 0) ≡ true
    → slice_split is_blank_byte line ≡ take end line ∷ slice_split is_blank_byte (drop (suc end) line)
parts_of_cut [] end inside filled at = absurd (omega arith)
parts_of_cut (b ∷ bytes) zero inside filled at = rw at refl
parts_of_cut (b ∷ bytes) (suc end) inside filled at =
    let later = parts_of_cut bytes end (omega arith) (λ k lt. filled (suc k) (omega arith)) at in
    rw (filled 0 (omega arith), later) refl

pub parts_of_one : (line : List ℕ) → ((k : ℕ) → k < length line → is_blank_byte (get_or line k 0) ≡ false)
    → slice_split is_blank_byte line ≡ line ∷ []
parts_of_one [] filled = refl
parts_of_one (b ∷ bytes) filled =
    let later = parts_of_one bytes (λ k lt. filled (suc k) (omega arith)) in
    rw (filled 0 (omega arith), later) refl
