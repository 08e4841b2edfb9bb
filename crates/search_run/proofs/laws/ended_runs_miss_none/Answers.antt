use Rattle.search_run.proofs.Leastness.{all_taken}
use Rattle.search_run.proofs.laws.ended_runs_miss_none.Goals as goal

pub returns : goal.returns
returns g c = all_taken
