-- "At most" as a record, so that chains of it need no costs written out.
use Rattle.std.proofs.Common.{◌≡◌}
use Rattle.root2_cost.specs.declared.Cost.{Cost}
use Rattle.root2_cost.specs.Order.{IsAtMost}
use Rattle.root2_cost.specs.Sums.{add_costs, no_cost}
use Rattle.root2_cost.proofs.AtMost.{IsAtMost-trans, same_at_most}
use Rattle.root2_cost.proofs.Sums.{add_costs-no_cost_left, IsAtMost-add_left, IsAtMost-add_right}
use Rattle.root2_cost.proofs.Sums.{IsAtMost-cancel_right, IsAtMost-more_right}

-- p is at most q
pub record Most (p q : Cost) : Type 0 where
  pub is : IsAtMost p q

pub Most-then : {p q r : Cost} → Most p q → Most q r → Most p r
Most-then {p} {q} {r} m n = record { is = IsAtMost-trans p q r m.is n.is }

pub Most-same : {p q : Cost} → p ≡ q → Most p q
Most-same {p} {q} e = record { is = same_at_most p q e }

pub Most-add_left : (r p q : Cost) → Most p q → Most (add_costs r p) (add_costs r q)
Most-add_left r p q m = record { is = IsAtMost-add_left r p q m.is }

pub Most-add_right : (r p q : Cost) → Most p q → Most (add_costs p r) (add_costs q r)
Most-add_right r p q m = record { is = IsAtMost-add_right r p q m.is }

pub Most-cancel_right : (r p q : Cost) → Most (add_costs p r) (add_costs q r) → Most p q
Most-cancel_right r p q m = record { is = IsAtMost-cancel_right r p q m.is }

pub Most-more : (p r : Cost) → Most p (add_costs p r)
Most-more p r = record { is = IsAtMost-more_right p r }

-- nothing is at most any cost
pub Most-nothing : (p : Cost) → Most no_cost p
Most-nothing p = Most-then (Most-more no_cost p) (Most-same (add_costs-no_cost_left p))
