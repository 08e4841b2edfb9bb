use Rattle.root2_cost.proofs.Rounding.{nearest_one}
use Rattle.root2_cost.proofs.laws.nearest_is_one.Goals as goal

pub returns : goal.returns
returns c = nearest_one
