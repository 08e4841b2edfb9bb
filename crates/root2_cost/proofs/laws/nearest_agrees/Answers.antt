use Rattle.root2_cost.proofs.Rounding.{nearest_agrees}
use Rattle.root2_cost.proofs.laws.nearest_agrees.Goals as goal

pub returns : goal.returns
returns c = nearest_agrees
