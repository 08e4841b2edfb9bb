-- How many entries of two tables differ.
use Rattle.std.specs.Prelude.{◌≡◌, ℕ, ◌+◌, ℤ, pos, negsuc, if◌then◌else◌, refl, List, [], ◌∷◌}
use Rattle.std.specs.Ordering.{int_eq}

-- the number of places at which two lists of one length differ
abbrev pub places_differing : List ℤ → List ℤ → ℕ
places_differing [] ys = 0
places_differing (x ∷ xs) [] = 0
places_differing (x ∷ xs) (y ∷ ys) = (if int_eq x y then 0 else 1) + places_differing xs ys

pub one_of_three : places_differing (pos 1 ∷ pos 2 ∷ negsuc 0 ∷ []) (pos 1 ∷ pos 3 ∷ negsuc 0 ∷ []) ≡ 1
one_of_three = refl
