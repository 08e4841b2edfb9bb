use Rattle.pruning.proofs.Stopping.{first_stop_is_first}
use Rattle.pruning.proofs.laws.first_stop_is_first.Goals as goal

pub returns : goal.returns
returns c = first_stop_is_first
