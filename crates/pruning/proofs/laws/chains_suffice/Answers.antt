use Rattle.pruning.proofs.Chaining.{chains_from}
use Rattle.pruning.proofs.Explaining.{turns_are_marked}
use Rattle.pruning.proofs.laws.chains_suffice.Goals as goal

pub returns : goal.returns
returns c = chains_from turns_are_marked
