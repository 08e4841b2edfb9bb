use Rattle.root2_cost.proofs.Differences.{telescope}
use Rattle.root2_cost.proofs.laws.differences_telescope.Goals as goal

pub returns : goal.returns
returns c = telescope
