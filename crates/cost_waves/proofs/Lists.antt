-- Lists with one more cell, entries that are written, and bits of bytes.
use Rattle.std.proofs.Common.{◌≡◌, ℕ, ◌+◌, ◌<◌, ◌≤◌, ◌⊎◌, inl, inr, arith, refl, ap, sym, ◌∙◌, Bool, true}
use Rattle.std.proofs.Common.{false, ◌||◌, List, [], ◌∷◌, ◌++◌, length, get_or, set, length-append}
use Rattle.std.specs.Prelude.{Some, slice_get, nat_lt, bit_or, if◌then◌else◌}
use Rattle.std.proofs.lemmas.Bool.Decides.{nat_tests}
use Rattle.std.proofs.lemmas.List.Sums.{sum_by-set, count_by-le-length}
use Rattle.std.proofs.lemmas.Option.{slice_get_within, get_or_from_slice_get, slice_get-get_or}
use Rattle.std.proofs.Math.ListN.{get_or-append}
use Rattle.std.proofs.Math.Seq.{get_or-append_seam}
use Rattle.grid_moves.specs.declared.Cell.{Cell}
use Rattle.grid_moves.specs.declared.Dir.{Dir}
use Rattle.grid_moves.specs.Move.{dir_number}
use Rattle.grid_moves.proofs.Bits.{set_or}
use Rattle.cost_waves.specs.Rank.{rank_limit}
use Rattle.cost_waves.specs.Stored.{has_dir}
use Rattle.cost_waves.specs.Wave.{Among, known_count, is_known}

one_longer : (xs : List Cell) (c : Cell) → length (xs ++ (c ∷ [])) ≡ length xs + 1
one_longer xs c = length-append xs (c ∷ [])

-- what stands in a list stands in a longer one
pub among_more : (xs : List Cell) (y c : Cell) → Among xs c → Among (xs ++ (y ∷ [])) c
among_more xs y c a =
    let within = slice_get_within xs a.place c a.is in
    let longer = one_longer xs y in
    let inside : a.place < length (xs ++ (y ∷ [])) = omega arith in
    record {
      place = a.place;
      is = slice_get-get_or (xs ++ (y ∷ [])) a.place c inside
          ∙ ap (λ (d : Cell). Some d) (get_or-append xs (y ∷ []) c a.place within
          ∙ get_or_from_slice_get xs a.place c c a.is);
    }

pub among_last : (xs : List Cell) (y : Cell) → Among (xs ++ (y ∷ [])) y
among_last xs y =
    let longer = one_longer xs y in
    let inside : length xs < length (xs ++ (y ∷ [])) = omega arith in
    record {
      place = length xs;
      is = slice_get-get_or (xs ++ (y ∷ [])) (length xs) y inside
          ∙ ap (λ (d : Cell). Some d) (get_or-append_seam xs y [] y);
    }

-- and what stands in the longer one stood there, or is the new cell
pub from_more : (xs : List Cell) (y c : Cell) (i : ℕ) → slice_get (xs ++ (y ∷ [])) i ≡ Some c
    → (slice_get xs i ≡ Some c) ⊎ (c ≡ y)
from_more xs y c i e = by_test (nat_lt i (length xs)) refl
  where
    within : i < length (xs ++ (y ∷ []))
    within = slice_get_within (xs ++ (y ∷ [])) i c e

    is_last : nat_lt i (length xs) ≡ false → i ≡ length xs
    is_last t = let longer = one_longer xs y in let w = within in grind (arith, nat_tests)

    by_test : (b : Bool) → nat_lt i (length xs) ≡ b → (slice_get xs i ≡ Some c) ⊎ (c ≡ y)
    by_test true t =
        let inside : i < length xs = grind (arith, nat_tests) in
        inl (slice_get-get_or xs i c inside ∙ ap (λ (d : Cell). Some d)
        (sym (get_or-append xs (y ∷ []) c i inside) ∙ get_or_from_slice_get (xs ++ (y ∷ [])) i c c e))
    by_test false t =
        inr (sym (get_or_from_slice_get (xs ++ (y ∷ [])) i c c e)
        ∙ ap (λ (n : ℕ). get_or (xs ++ (y ∷ [])) n c) (is_last t) ∙ get_or-append_seam xs y [] c)

-- how many are known after an entry is written
counted : (xs : List ℕ) (i y d : ℕ) → i < length xs
    → known_count (set xs i y) + (if is_known (get_or xs i d) then 1 else 0)
    ≡ known_count xs + (if is_known y then 1 else 0)
counted xs i y d h = sum_by-set (λ (x : ℕ). if is_known x then 1 else 0) xs i y d h

pub count_new : (xs : List ℕ) (i y d : ℕ) → i < length xs → y < rank_limit → rank_limit ≤ get_or xs i d
    → known_count (set xs i y) ≡ known_count xs + 1
count_new xs i y d h k u =
    let c = counted xs i y d h in
    let new : is_known y ≡ true = grind (arith, nat_tests) in
    let old : is_known (get_or xs i d) ≡ false = grind (arith, nat_tests) in
    let e = rw (new, old) at c in omega arith

pub count_old : (xs : List ℕ) (i y d : ℕ) → i < length xs → y < rank_limit → get_or xs i d < rank_limit
    → known_count (set xs i y) ≡ known_count xs
count_old xs i y d h k u =
    let c = counted xs i y d h in
    let new : is_known y ≡ true = grind (arith, nat_tests) in
    let old : is_known (get_or xs i d) ≡ true = grind (arith, nat_tests) in
    let e = rw (new, old) at c in omega arith

pub count_low : (xs : List ℕ) → known_count xs ≤ length xs
count_low xs = count_by-le-length is_known xs

-- the directions of both bytes
pub bit_or-dir : (a b : ℕ) (d : Dir) → has_dir (bit_or a b) d ≡ (has_dir a d || has_dir b d)
bit_or-dir a b d = set_or a b (dir_number d)
