use Rattle.pruning.proofs.Stopping.{first_mark_is_first}
use Rattle.pruning.proofs.laws.first_mark_is_first.Goals as goal

pub returns : goal.returns
returns c = first_mark_is_first
