-- Rows that break nothing, and their bytes in order.
use Rattle.std.proofs.lemmas.Bool.Decides.{nat_tests}
use Rattle.std.proofs.Common.{◌≡◌, ℕ, zero, suc, ◌+◌, ◌*◌, ◌<◌, ◌≤◌, Bool, true, false, not, eqb, List, []}
use Rattle.std.proofs.Common.{◌∷◌, ◌++◌, length, get_or, take, drop, Option, Some, None, refl, ap, subst, inl}
use Rattle.std.proofs.Common.{inr, arith}
use Rattle.std.specs.Prelude.{slice_get, position}
use Rattle.std.specs.List.{list_all, list_any, AllByRecursion, concat}
use Rattle.std.proofs.lemmas.Bool.{cases_Bool, and_from, eq-eqb, eqb-true, le-ltb, not-false, not_from_true}
use Rattle.std.proofs.lemmas.Bool.{or_parts}
use Rattle.std.proofs.lemmas.List.{length-append, get_or_default, append-nil, append_assoc}
use Rattle.std.proofs.lemmas.List.Folds.{list_all-append}
use Rattle.std.proofs.lemmas.Option.{same_Some}
use Rattle.std.proofs.lemmas.List.Sums.{list_all-from_AllPass, AllPass-from_list_all, position_or_len_is}
use Rattle.text_line.proofs.Parts.{position-None}
use Rattle.map_text.specs.Map.{is_terrain}
use Rattle.map_text.specs.Faults.{row_fault, byte_fault, after_fault}

-- a row of a map of this width
pub record IsRow (width : ℕ) (row : List ℕ) : Type 0 where
  pub long : length row ≡ width
  pub terrain : list_all is_terrain row ≡ true

no_stranger : (place : Option ℕ) (number : ℕ) → byte_fault number place ≡ None → place ≡ None
no_stranger place number h = grind (arith, nat_tests)

-- a row that breaks nothing is there and is a row
pub row_right : (number width : ℕ) (line : Option (List ℕ)) → row_fault number width line ≡ None
    → (row : List ℕ) × (line ≡ Some row) × IsRow width row
row_right number width None none = absurd cc
row_right number width (Some row) none =
    elim (cases_Bool (eqb (length row) width)) [
      | inl same ↦
          let strange = no_stranger (position (λ byte. not (is_terrain byte)) row) number (rw same at none) in
          let each = position-None (λ byte. not (is_terrain byte)) row strange in
          let all : list_all is_terrain row ≡ true = list_all-from_AllPass is_terrain row
          (λ k d below. rw (get_or_default row k d 0 below)
          (not-false (is_terrain (get_or row k 0)) (each k below))) in
          (row, refl, record { long = eqb-true (length row) width same; terrain = all })
      | inr other ↦ absurd (cc (rw other at none))
    ]

-- where no byte passes, no place does
nowhere : (p : ℕ → Bool) (bytes : List ℕ) → ((k : ℕ) → k < length bytes → p (get_or bytes k 0) ≡ false)
    → position p bytes ≡ None
nowhere p bytes none =
    let end =
    position_or_len_is p bytes (length bytes) 0 (omega arith) none (λ below. absurd (omega arith)) in
    let long : length bytes ≤ length bytes = omega arith in
    rw (end, le-ltb (length bytes) (length bytes) long) refl

none_passes : (p : ℕ → Bool) (bytes : List ℕ) → list_any p bytes ≡ false → (k : ℕ) → k < length bytes
    → p (get_or bytes k 0) ≡ false
none_passes p [] none k below = absurd (omega arith)
none_passes p (byte ∷ bytes) none zero below = (or_parts (p byte) (list_any p bytes) none).0
none_passes p (byte ∷ bytes) none (suc k) below =
    none_passes p bytes (or_parts (p byte) (list_any p bytes) none).1 k (omega arith)

pub position_nowhere : (p : ℕ → Bool) (bytes : List ℕ) → list_any p bytes ≡ false → position p bytes ≡ None
position_nowhere p bytes none = nowhere p bytes (none_passes p bytes none)

-- a row breaks nothing
pub row_fine : (number width : ℕ) (row : List ℕ) → IsRow width row → row_fault number width (Some row) ≡ None
row_fine number width row is =
    let none = nowhere (λ byte. not (is_terrain byte)) row
    (λ k below. not_from_true (is_terrain (get_or row k 0))
    (AllPass-from_list_all is_terrain row is.terrain k 0 below)) in
    rw (eq-eqb (length row) width is.long, none) refl

-- a line after the rows that breaks nothing is empty
pub after_right : (number : ℕ) (line : List ℕ) → after_fault number (Some line) ≡ None → line ≡ []
after_right number line h = grind (arith, nat_tests)

-- what holds of the line at each place
pub each_right : (P : List ℕ → Type 0) (lines : List (List ℕ))
    → ((k : ℕ) (line : List ℕ) → slice_get lines k ≡ Some line → P line) → AllByRecursion P lines
each_right P [] right = tt
each_right P (line ∷ lines) right =
    (right 0 line refl, each_right P lines (λ k there at. right (suc k) there at))

pub right_at : (P : List ℕ → Type 0) (lines : List (List ℕ)) (k : ℕ) (line : List ℕ) → AllByRecursion P lines
    → slice_get lines k ≡ Some line → P line
right_at P [] k line all at = absurd cc
right_at P (first ∷ lines) zero line all at = subst P (same_Some first line at) all.0
right_at P (first ∷ lines) (suc k) line all at = right_at P lines k line all.1 at

-- the bytes of rows are terrain, and so many
pub terrain_of_rows : (width : ℕ) (rows : List (List ℕ)) → AllByRecursion (IsRow width) rows
    → list_all is_terrain (concat rows) ≡ true
terrain_of_rows width [] all = refl
terrain_of_rows width (row ∷ rows) all =
    grind (arith, list_all-append, and_from, terrain_of_rows width rows all.1)

pub length_of_rows : (width : ℕ) (rows : List (List ℕ)) → AllByRecursion (IsRow width) rows
    → length (concat rows) ≡ length rows * width
length_of_rows width [] all = omega arith
length_of_rows width (row ∷ rows) all = grind (arith, length-append, length_of_rows width rows all.1)

-- one row more
pub concat_push : (rows : List (List ℕ)) (row : List ℕ) → concat (rows ++ row ∷ []) ≡ concat rows ++ row
concat_push [] row = append-nil row
concat_push (first ∷ rows) row = grind (arith, append_assoc, concat_push rows row)

-- the line at a place of a part of the lines
pub slice_get-take : (n k : ℕ) (lines : List (List ℕ)) (line : List ℕ)
    → slice_get (take n lines) k ≡ Some line → (k < n) × (slice_get lines k ≡ Some line)
slice_get-take zero k lines line at = absurd cc
slice_get-take (suc n) k [] line at = absurd cc
slice_get-take (suc n) zero (first ∷ lines) line at = (omega arith, at)
slice_get-take (suc n) (suc k) (first ∷ lines) line at = grind (arith, slice_get-take n k lines line at)

pub slice_get-drop : (n k : ℕ) (lines : List (List ℕ)) → slice_get (drop n lines) k ≡ slice_get lines (n + k)
slice_get-drop zero k lines = ap (slice_get lines) (omega arith)
slice_get-drop (suc n) k [] = refl
slice_get-drop (suc n) k (first ∷ lines) = grind (arith, slice_get-drop n k lines)
