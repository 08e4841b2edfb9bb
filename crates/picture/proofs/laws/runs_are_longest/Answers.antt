use Rattle.picture.proofs.Covering.{are_runs}
use Rattle.picture.proofs.laws.runs_are_longest.Goals as goal

pub returns : goal.returns
returns c = are_runs
