use Rattle.root2_cost.proofs.Differences.{bounds_add}
use Rattle.root2_cost.proofs.laws.bounds_add_up.Goals as goal

pub returns : goal.returns
returns c = bounds_add
