use Rattle.pruning.proofs.Replacing.{turns_are_replaced}
use Rattle.pruning.proofs.laws.turns_are_replaced.Goals as goal

pub returns : goal.returns
returns c = turns_are_replaced
