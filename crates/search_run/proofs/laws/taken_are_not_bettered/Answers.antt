use Rattle.search_run.proofs.Leastness.{taken_not_bettered}
use Rattle.search_run.proofs.laws.taken_are_not_bettered.Goals as goal

pub returns : goal.returns
returns g c = λ r fit start x earlier u c is m l. (taken_not_bettered r fit start x earlier u c is m l).is
