-- What holds of the jump engines' runs on all grids.
use Rattle.std.specs.Prelude.{◌≡◌, ◌+◌, ◌^◌, ◌≤◌, true, List}
use Rattle.grid_moves.specs.declared.Cell.{Cell}
use Rattle.grid_moves.specs.Grid.{GridData, IsGrid, is_free}
use Rattle.search_run.specs.Chain.{IsConsistent}
use Rattle.search_run.specs.Run.{Taken, IsIn, IsRun}
use Rattle.path_points.specs.Least.{IsLeastOrNone}
use Rattle.best_first.specs.declared.found.Found.{Found}
use Rattle.best_first.specs.declared.state.Layout.{Layout}
use Rattle.best_first.specs.declared.state.State.{State}
use Rattle.best_first.specs.State.{start_at}
use Rattle.search_core.specs.Jumps.{jump_rule}
use Rattle.search_core.specs.Answer.{IsJumpRun}

-- what a run from a free cell answers is right
abbrev pub RunsAreRight : Type 0
RunsAreRight = (layout : Layout) (g : GridData) (s t : Cell) (f : Found) → is_free g s ≡ true
    → IsJumpRun layout g s t f
    → IsLeastOrNone g s t f.walk

-- over a link the octile estimate falls by at most what the link costs, and at the goal it is nothing: so, by
-- either rule of states, sums never fall, and no taken state is offered at less
abbrev pub EstimateSuits : Type 0
EstimateSuits = (layout : Layout) (g : GridData) (goal : Cell) → IsConsistent (jump_rule layout g goal)

-- no state is taken at a cost of more than 2^27 moves
abbrev pub CostsFit : Type 0
CostsFit = (layout : Layout) (g : GridData) (s t : Cell) (run : List (Taken State)) (u : Taken State)
    → IsGrid g → IsRun (jump_rule layout g t) (start_at s) run → IsIn u run → u.cost.a + u.cost.b ≤ 2 ^ 27
