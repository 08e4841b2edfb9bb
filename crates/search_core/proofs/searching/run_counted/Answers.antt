use Rattle.std.proofs.lemmas.Bool.Decides.{nat_tests}
use Rattle.std.proofs.lemmas.Grind.{common_steps}
use Rattle.std.proofs.Common.{arith}
use Rattle.std.specs.Prelude.{IfOk}
use Rattle.std.specs.declared.result.Result.{Result}
use Rattle.grid_moves.specs.declared.Cell.{Cell}
use Rattle.grid_moves.specs.Grid.{GridData}
use Rattle.path_points.specs.Least.{IsLeastOrNone}
use Rattle.best_first.specs.declared.found.Found.{Found}
use Rattle.best_first.specs.declared.state.Layout.{Layout}
use Rattle.search_core.specs.Answer.{IsJumpRun}
use Rattle.search_core.specs.Serving.{OnEach}
use Rattle.search_core.proofs.Least.{run_least}
use Rattle.search_core.proofs.searching.run_counted.Goals as goal

-- a run's answer is least
all_least : {E : Type 0} (layout : Layout) (Stands : GridData → Type 0) (s t : Cell) (result : Result Found E)
    → IfOk result (λ f. OnEach Stands s t (λ g. IsJumpRun layout g s t f))
    → IfOk result (λ f. OnEach Stands s t (λ g. IsLeastOrNone g s t f.walk))
all_least layout Stands s t result h1 = grind (arith, nat_tests, common_steps, run_least)

pub returns-clause-least : goal.returns-clause-least
returns-clause-least g c =
    all_least c.args.query.layout (g.J.JumpSource.StandsFor c.args.j.now) c.args.query.from c.args.query.to
    c.run.result c.run.ensures.run
