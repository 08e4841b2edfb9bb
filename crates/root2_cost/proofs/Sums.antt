-- Laws of sums of costs.
use Rattle.std.proofs.lemmas.Bool.Decides.{nat_tests}
use Rattle.std.proofs.Common.{◌≡◌, ◌+◌, ◌<◌, inl, inr, arith, ap}
use Rattle.root2_cost.specs.declared.Cost.{Cost}
use Rattle.root2_cost.specs.Order.{IsLess, IsAtMost}
use Rattle.root2_cost.specs.Sums.{no_cost, add_costs}
use Rattle.root2_cost.proofs.Gaps.{both, Gap-moved}
use Rattle.root2_cost.proofs.Less.{less_gap, gap_less, same_cost}
use Rattle.root2_cost.proofs.AtMost.{IsAtMost-cases, less_at_most, same_at_most}
use Rattle.root2_cost.proofs.AtMost.{IsAtMost-trans, at_most_by_parts}

pub add_costs-comm : (p q : Cost) → add_costs p q ≡ add_costs q p
add_costs-comm p q = same_cost (add_costs p q) (add_costs q p) (omega arith) (omega arith)

pub add_costs-assoc : (p q r : Cost) → add_costs (add_costs p q) r ≡ add_costs p (add_costs q r)
add_costs-assoc p q r = grind (arith, nat_tests)

pub add_costs-no_cost_left : (p : Cost) → add_costs no_cost p ≡ p
add_costs-no_cost_left p = same_cost (add_costs no_cost p) p (omega arith) (omega arith)

pub add_costs-no_cost_right : (p : Cost) → add_costs p no_cost ≡ p
add_costs-no_cost_right p = same_cost (add_costs p no_cost) p (omega arith) (omega arith)

-- the order depends on the differences of the parts alone
pub IsLess-moved : (p q r s : Cost) → IsLess p q → r.a + q.a ≡ s.a + p.a → r.b + q.b ≡ s.b + p.b → IsLess r s
IsLess-moved p q r s h e f = gap_less r s (Gap-moved r.a r.b s.a s.b (less_gap p q h) e f)

-- the same cost added to both sides keeps the order
pub IsLess-add_left : (r p q : Cost) → IsLess p q → IsLess (add_costs r p) (add_costs r q)
IsLess-add_left r p q h = IsLess-moved p q (add_costs r p) (add_costs r q) h (omega arith) (omega arith)

pub IsLess-add_right : (r p q : Cost) → IsLess p q → IsLess (add_costs p r) (add_costs q r)
IsLess-add_right r p q h = IsLess-moved p q (add_costs p r) (add_costs q r) h (omega arith) (omega arith)

pub IsAtMost-add_left : (r p q : Cost) → IsAtMost p q → IsAtMost (add_costs r p) (add_costs r q)
IsAtMost-add_left r p q h = elim (IsAtMost-cases p q h) [
  | inl less ↦ less_at_most (add_costs r p) (add_costs r q) (IsLess-add_left r p q less)
  | inr same ↦ same_at_most (add_costs r p) (add_costs r q) (ap (λ (c : Cost). add_costs r c) same)
]

pub IsAtMost-add_right : (r p q : Cost) → IsAtMost p q → IsAtMost (add_costs p r) (add_costs q r)
IsAtMost-add_right r p q h = elim (IsAtMost-cases p q h) [
  | inl less ↦ less_at_most (add_costs p r) (add_costs q r) (IsLess-add_right r p q less)
  | inr same ↦ same_at_most (add_costs p r) (add_costs q r) (ap (λ (c : Cost). add_costs c r) same)
]

-- sums of two orders
pub IsAtMost-add : (p q r s : Cost) → IsAtMost p q → IsAtMost r s → IsAtMost (add_costs p r) (add_costs q s)
IsAtMost-add p q r s g h =
    IsAtMost-trans (add_costs p r) (add_costs q r) (add_costs q s)
    (IsAtMost-add_right r p q g) (IsAtMost-add_left q r s h)

-- a cost that stands on both sides may be left out
pub IsLess-cancel_right : (r p q : Cost) → IsLess (add_costs p r) (add_costs q r) → IsLess p q
IsLess-cancel_right r p q h = IsLess-moved (add_costs p r) (add_costs q r) p q h (omega arith) (omega arith)

pub IsAtMost-cancel_left : (r p q : Cost) → IsAtMost (add_costs r p) (add_costs r q) → IsAtMost p q
IsAtMost-cancel_left r p q h = grind (arith, nat_tests, IsLess-add_left)

pub IsAtMost-cancel_right : (r p q : Cost) → IsAtMost (add_costs p r) (add_costs q r) → IsAtMost p q
IsAtMost-cancel_right r p q h = grind (arith, nat_tests, IsLess-add_right)

-- a cost added lowers nothing
pub no_cost_at_most : (p : Cost) → IsAtMost no_cost p
no_cost_at_most p = at_most_by_parts no_cost p (omega arith) (omega arith)

pub IsAtMost-more_right : (p r : Cost) → IsAtMost p (add_costs p r)
IsAtMost-more_right p r = at_most_by_parts p (add_costs p r) (omega arith) (omega arith)

pub IsAtMost-more_left : (r p : Cost) → IsAtMost p (add_costs r p)
IsAtMost-more_left r p = at_most_by_parts p (add_costs r p) (omega arith) (omega arith)

-- and one of at least one move raises it
pub IsLess-more_left : (r p : Cost) → 0 < r.a + r.b → IsLess p (add_costs r p)
IsLess-more_left r p h = gap_less p (add_costs r p) (both r.a r.b (omega arith) (omega arith) h)
