use Rattle.pruning.proofs.Stopping.{only_one_first_stop}
use Rattle.pruning.proofs.laws.only_one_first_stop.Goals as goal

pub returns : goal.returns
returns c = only_one_first_stop
