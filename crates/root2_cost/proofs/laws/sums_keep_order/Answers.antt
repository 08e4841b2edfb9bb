use Rattle.root2_cost.proofs.Sums.{IsLess-add_right, IsLess-cancel_right}
use Rattle.root2_cost.proofs.laws.sums_keep_order.Goals as goal

pub returns : goal.returns
returns c r p q = (IsLess-add_right r p q, IsLess-cancel_right r p q)
