-- Laws of the strict order of costs.
use Rattle.std.proofs.Common.{◌≡◌, ℕ, suc, ◌⊎◌, inl, inr, arith, refl, subst, true, false}
use Rattle.std.specs.Prelude.{ℤ, pos, negsuc, ◌-ℤ◌, nat_eq, ◌&&◌}
use Rattle.std.proofs.lemmas.Int.{ints}
use Rattle.std.proofs.lemmas.Bool.Decides.{nat_tests}
use Rattle.root2_cost.specs.declared.Cost.{Cost}
use Rattle.root2_cost.specs.Order.{is_positive, is_less, IsLess}
use Rattle.root2_cost.specs.Sums.{is_same_cost}
use Rattle.root2_cost.proofs.Gaps.{Gap, both, first, second, Gap-trans, Gap-total, Gap-irreflexive}

-- two costs with the same parts are one
pub same_cost : (p q : Cost) → p.a ≡ q.a → p.b ≡ q.b → p ≡ q
same_cost p q e f = grind (arith, nat_tests)

-- the test says that they are one
pub is_same_cost-tells : (p q : Cost) → is_same_cost p q ≡ true → p ≡ q
is_same_cost-tells p q h = same_cost p q (grind (arith, nat_tests)) (grind (arith, nat_tests))

pub is_same_cost-of : (p q : Cost) → p ≡ q → is_same_cost p q ≡ true
is_same_cost-of p q e = subst (λ (c : Cost). is_same_cost p c ≡ true) e (grind (arith, nat_tests))

-- where c - a is x and d - b is y
pub positive_gap : (x y : ℤ) (a b c d : ℕ) → pos c -ℤ pos a ≡ x → pos d -ℤ pos b ≡ y
    → is_positive x y ≡ true → Gap a b c d
positive_gap (pos x) (pos y) a b c d e f h =
    both x y (omega (arith, ints)) (omega (arith, ints)) (grind (arith, nat_tests))
positive_gap (pos x) (negsuc y) a b c d e f h =
    first x (suc y) (omega (arith, ints)) (omega (arith, ints)) (grind (arith, nat_tests))
positive_gap (negsuc x) (pos y) a b c d e f h =
    second (suc x) y (omega (arith, ints)) (omega (arith, ints)) (grind (arith, nat_tests))
positive_gap (negsuc x) (negsuc y) a b c d e f h = absurd (cc)

-- the order of costs is that of the gaps
pub less_gap : (p q : Cost) → IsLess p q → Gap p.a p.b q.a q.b
less_gap p q h = positive_gap (pos q.a -ℤ pos p.a) (pos q.b -ℤ pos p.b) p.a p.b q.a q.b refl refl h

pub gap_less : (p q : Cost) → Gap p.a p.b q.a q.b → IsLess p q
gap_less p q g = grind (arith, nat_tests)

pub IsLess-irreflexive : (p : Cost) → IsLess p p → ⊥
IsLess-irreflexive p h = Gap-irreflexive p.a p.b (less_gap p p h)

pub IsLess-trans : (p q r : Cost) → IsLess p q → IsLess q r → IsLess p r
IsLess-trans p q r g h = gap_less p r (Gap-trans (less_gap p q g) (less_gap q r h))

pub IsLess-asymmetric : (p q : Cost) → IsLess p q → IsLess q p → ⊥
IsLess-asymmetric p q g h = IsLess-irreflexive p (IsLess-trans p q p g h)

-- one of two costs is the lesser, or they are one
pub IsLess-total : (p q : Cost) → IsLess p q ⊎ IsLess q p ⊎ (p ≡ q)
IsLess-total p q = elim (Gap-total p.a p.b q.a q.b) [
  | inl g ↦ inl (gap_less p q g)
  | inr (inl g) ↦ inr (inl (gap_less q p g))
  | inr (inr (e, f)) ↦ inr (inr (same_cost p q e f))
]

-- of two costs that differ and of which the first isn't the lesser, the second is
pub less_otherwise : (p q : Cost) → (nat_eq p.a q.a && nat_eq p.b q.b) ≡ false → is_less p q ≡ false
    → IsLess q p
less_otherwise p q h i = grind (arith, nat_tests, IsLess-total)
