-- Positive and negative values of signed pairs.
use Rattle.std.proofs.Common.{◌≡◌, arith, true, false}
use Rattle.std.specs.Prelude.{ℤ, pos, neg_ℤ, ◌&&◌}
use Rattle.std.specs.Ordering.{int_eq}
use Rattle.std.proofs.lemmas.Bool.Decides.{nat_tests}
use Rattle.root2_cost.specs.Order.{is_positive}
use Rattle.root2_cost.proofs.Gaps.{compared}
use Rattle.root2_cost.proofs.Squares.{irrational}

-- x + y√2 is not 0, so where it is not positive its opposite is
pub opposite_positive : (x y : ℤ) → (int_eq x (pos 0) && int_eq y (pos 0)) ≡ false → is_positive x y ≡ false
    → is_positive (neg_ℤ x) (neg_ℤ y) ≡ true
opposite_positive x y h i = grind (arith, nat_tests, compared, irrational)
