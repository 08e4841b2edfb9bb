use Rattle.search_core.proofs.Least.{run_least}
use Rattle.search_core.proofs.laws.runs_are_right.Goals as goal

pub returns : goal.returns
returns c = run_least
