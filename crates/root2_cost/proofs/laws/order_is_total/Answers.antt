use Rattle.std.proofs.Common.{inl, inr}
use Rattle.root2_cost.proofs.Less.{IsLess-total}
use Rattle.root2_cost.proofs.laws.order_is_total.Goals as goal

pub returns : goal.returns
returns c p q = elim (IsLess-total p q) [
  | inl less ↦ inl less
  | inr (inl more) ↦ inr (inr more)
  | inr (inr same) ↦ inr (inl same)
]
