use Rattle.search_run.proofs.Existence.{ended_is_made}
use Rattle.search_run.proofs.laws.ended_runs_are_made.Goals as goal

pub returns : goal.returns
returns g c = λ r tell one itself start all covered. ended_is_made r one itself start all covered tell
