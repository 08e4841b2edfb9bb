-- What a run of jumps answers is right, with a state for each arrival at a cell and with one for each cell.
use Rattle.std.proofs.Common.{◌≡◌, ℕ, true, List}
use Rattle.std.specs.Prelude.{Option, Some, None}
use Rattle.root2_cost.specs.declared.Cost.{Cost}
use Rattle.grid_moves.specs.declared.Cell.{Cell}
use Rattle.grid_moves.specs.Grid.{GridData, is_free}
use Rattle.grid_moves.specs.Reply.{StandsForLeast}
use Rattle.grid_moves.specs.Walk.{NoWalk}
use Rattle.path_points.specs.declared.points.Walk.{Walk}
use Rattle.path_points.specs.Least.{IsLeastOrNone}
use Rattle.best_first.specs.declared.found.Found.{Found}
use Rattle.best_first.specs.declared.state.Layout.{Layout}
use Rattle.best_first.specs.declared.state.Layout.TheVariants.{ByCell, ByArrival}
use Rattle.search_core.specs.Answer.{IsFound, IsExhausted, IsJumpRun}
use Rattle.search_core.proofs.ByCell.{cells_least, cells_none}
use Rattle.search_core.proofs.Right.{arrivals_least, arrivals_none}

found_least : (layout : Layout) (g : GridData) (s t : Cell) (points : List Cell)
    (cost : Cost) (taken : List ℕ)
    → is_free g s ≡ true → IsFound layout g s t points cost taken → StandsForLeast g s t points cost
found_least ByArrival g s t points cost taken free f = arrivals_least g s t points cost taken free f
found_least ByCell g s t points cost taken free f = cells_least g s t points cost taken free f

exhausted_none : (layout : Layout) (g : GridData) (s t : Cell) (taken : List ℕ) → is_free g s ≡ true
    → IsExhausted layout g s t taken → NoWalk g s t
exhausted_none ByArrival g s t taken free x = arrivals_none g s t taken x
exhausted_none ByCell g s t taken free x = cells_none g s t taken free x

pub run_least : (layout : Layout) (g : GridData) (s t : Cell) (f : Found) → is_free g s ≡ true
    → IsJumpRun layout g s t f → IsLeastOrNone g s t f.walk
run_least layout g s t f free is = by_walk f.walk is
  where
    by_walk : (o : Option Walk) → IsJumpRun layout g s t (record { walk = o; taken = f.taken })
        → IsLeastOrNone g s t o
    by_walk None is = exhausted_none layout g s t f.taken free is
    by_walk (Some w) is = found_least layout g s t w.points w.cost f.taken free is
