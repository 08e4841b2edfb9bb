use Rattle.pruning.proofs.Stopping.{only_one_first_mark}
use Rattle.pruning.proofs.laws.only_one_first_mark.Goals as goal

pub returns : goal.returns
returns c = only_one_first_mark
