use Rattle.pruning.proofs.Runs.{run_length_is_exact}
use Rattle.pruning.proofs.laws.run_length_is_exact.Goals as goal

pub returns : goal.returns
returns c = run_length_is_exact
