use Rattle.root2_cost.proofs.Rounding.{nearest_short}
use Rattle.root2_cost.proofs.laws.nearest_is_short.Goals as goal

pub returns : goal.returns
returns c = nearest_short
