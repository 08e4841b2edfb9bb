use Rattle.search_run.proofs.Sameness.{ended_runs}
use Rattle.search_run.proofs.laws.ended_runs_are_one.Goals as goal

pub returns : goal.returns
returns g c = ended_runs
