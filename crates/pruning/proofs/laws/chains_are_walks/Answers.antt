use Rattle.pruning.proofs.Unfolding.{chains_are_walks}
use Rattle.pruning.proofs.laws.chains_are_walks.Goals as goal

pub returns : goal.returns
returns c = chains_are_walks
