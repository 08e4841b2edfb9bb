use Rattle.pruning.proofs.Explaining.{turns_are_marked}
use Rattle.pruning.proofs.laws.turns_are_marked.Goals as goal

pub returns : goal.returns
returns c = turns_are_marked
