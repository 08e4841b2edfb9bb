-- Laws of "at most" on costs, and its part in chains with "less".
use Rattle.std.proofs.lemmas.Bool.Decides.{nat_tests}
use Rattle.std.proofs.Common.{◌≡◌, ℕ, ◌+◌, ◌*◌, ◌<◌, ◌≤◌, ◌⊎◌, inl, inr, arith, sym, subst}
use Rattle.root2_cost.specs.declared.Cost.{Cost}
use Rattle.root2_cost.specs.Order.{IsLess, IsAtMost}
use Rattle.root2_cost.proofs.Squares.{square_grows, square_positive}
use Rattle.root2_cost.proofs.Gaps.{both, first, second, differ}
use Rattle.root2_cost.proofs.Less.{IsLess-trans, IsLess-total, same_cost, gap_less}

-- what is at most another is less, or the same
pub IsAtMost-cases : (p q : Cost) → IsAtMost p q → IsLess p q ⊎ (p ≡ q)
IsAtMost-cases p q h = elim (IsLess-total p q) [
  | inl less ↦ inl less
  | inr (inl more) ↦ absurd (cc)
  | inr (inr same) ↦ inr same
]

-- what is less is at most
pub less_at_most : (p q : Cost) → IsLess p q → IsAtMost p q
less_at_most p q h = grind (arith, nat_tests)

pub IsAtMost-refl : (p : Cost) → IsAtMost p p
IsAtMost-refl p = grind (arith, nat_tests)

pub same_at_most : (p q : Cost) → p ≡ q → IsAtMost p q
same_at_most p q e = subst (λ (r : Cost). IsAtMost p r) e (IsAtMost-refl p)

-- a cost is at most another, or more
pub IsAtMost-or_more : (p q : Cost) → IsAtMost p q ⊎ IsLess q p
IsAtMost-or_more p q = grind (arith, nat_tests)

-- no cost is both at most another and more
pub IsAtMost-not_more : (p q : Cost) → IsAtMost p q → IsLess q p → ⊥
IsAtMost-not_more p q g h = absurd (cc)

pub less_then_at_most : (p q r : Cost) → IsLess p q → IsAtMost q r → IsLess p r
less_then_at_most p q r g h = elim (IsAtMost-cases q r h) [
  | inl less ↦ IsLess-trans p q r g less
  | inr same ↦ subst (λ (c : Cost). IsLess p c) same g
]

pub at_most_then_less : (p q r : Cost) → IsAtMost p q → IsLess q r → IsLess p r
at_most_then_less p q r g h = elim (IsAtMost-cases p q g) [
  | inl less ↦ IsLess-trans p q r less h
  | inr same ↦ subst (λ (c : Cost). IsLess c r) (sym same) h
]

pub IsAtMost-trans : (p q r : Cost) → IsAtMost p q → IsAtMost q r → IsAtMost p r
IsAtMost-trans p q r h i = grind (arith, nat_tests, IsAtMost-cases, less_at_most, less_then_at_most)

pub IsAtMost-antisymmetric : (p q : Cost) → IsAtMost p q → IsAtMost q p → p ≡ q
IsAtMost-antisymmetric p q h i = grind (arith, nat_tests, IsAtMost-cases, IsAtMost-not_more)

-- where the number of moves and the number of moves with diagonal ones counted twice are at most those
-- of the other: 2 - √2 and √2 - 1, by which these count, are positive
pub at_most_by_counts : (p q : Cost) → p.a + p.b ≤ q.a + q.b → p.a + 2 * p.b ≤ q.a + 2 * q.b → IsAtMost p q
at_most_by_counts p q g h = elim (differ p.a q.a) [
  | inl i ↦ elim (differ p.b q.b) [
    | inl j ↦ both_rise i.0 j.0 i.1 j.1
    | inr j ↦ less_at_most p q (gap_less p q (first i.0 j.0 i.1 j.1 (
        let most : (2 * j.0) * (2 * j.0) ≤ i.0 * i.0 = square_grows (2 * j.0) i.0 (omega arith) in
        let some : 0 < j.0 * j.0 = square_positive j.0 j.2 in
        omega arith)))
  ]
  | inr i ↦ elim (differ p.b q.b) [
    | inl j ↦ less_at_most p q (gap_less p q (second i.0 j.0 i.1 j.1 (
        let most : i.0 * i.0 ≤ j.0 * j.0 = square_grows i.0 j.0 (omega arith) in
        let some : 0 < i.0 * i.0 = square_positive i.0 i.2 in
        omega arith)))
    | inr j ↦ absurd (omega arith)
  ]
]
  where
    both_rise : (i j : ℕ) → q.a ≡ p.a + i → q.b ≡ p.b + j → IsAtMost p q
    both_rise i j e f = elim (zero_or (i + j)) [
      | inl none ↦ same_at_most p q (same_cost p q (omega arith) (omega arith))
      | inr some ↦ less_at_most p q (gap_less p q (both i j e f some))
    ]
      where
        zero_or : (n : ℕ) → (n ≡ 0) ⊎ (0 < n)
        zero_or n = grind arith

-- where both parts are at most those of the other
pub at_most_by_parts : (p q : Cost) → p.a ≤ q.a → p.b ≤ q.b → IsAtMost p q
at_most_by_parts p q g h = at_most_by_counts p q (omega arith) (omega arith)
