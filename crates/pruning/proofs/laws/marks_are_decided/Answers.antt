use Rattle.pruning.proofs.Stopping.{marks_are_decided}
use Rattle.pruning.proofs.laws.marks_are_decided.Goals as goal

pub returns : goal.returns
returns c = marks_are_decided
