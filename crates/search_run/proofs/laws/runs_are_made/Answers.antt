use Rattle.search_run.proofs.Existence.{made_ends}
use Rattle.search_run.proofs.laws.runs_are_made.Goals as goal

pub returns : goal.returns
returns g c = λ r one itself start all covered. made_ends r one itself start all covered
