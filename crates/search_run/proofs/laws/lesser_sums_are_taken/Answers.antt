use Rattle.search_run.proofs.Leastness.{lower_taken}
use Rattle.search_run.proofs.laws.lesser_sums_are_taken.Goals as goal

pub returns : goal.returns
returns g c = lower_taken
