use Rattle.search_run.proofs.Leastness.{taken_is_least}
use Rattle.search_run.proofs.laws.taken_are_least.Goals as goal

pub returns : goal.returns
returns g c = λ r fit start run u d is m chain. (taken_is_least r fit start run u d is m chain).is
