use Rattle.search_run.proofs.Leastness.{run_is_least}
use Rattle.search_run.proofs.laws.goals_are_least.Goals as goal

pub returns : goal.returns
returns g c =
    λ r fit start t x earlier d is g chain h. (run_is_least r fit start t x earlier d is g chain h).is
