use Rattle.root2_cost.proofs.Less.{IsLess-trans}
use Rattle.root2_cost.proofs.laws.order_is_transitive.Goals as goal

pub returns : goal.returns
returns c = IsLess-trans
