-- What holds of every run of every sound search.
use Rattle.std.specs.Prelude.{◌≡◌, ℕ, ◌*◌, ◌≤◌, List, length}
use Rattle.root2_cost.specs.Order.{IsAtMost}
use Rattle.grid_moves.specs.declared.Cell.{Cell}
use Rattle.grid_moves.specs.Grid.{GridData}
use Rattle.grid_moves.specs.Reply.{StandsForWalk}
use Rattle.grid_moves.specs.Walk.{NoWalk}
use Rattle.cost_waves.specs.Begin.{IsLeastCost}
use Rattle.pruning.specs.Laws.{Tells}
use Rattle.pruning.specs.Explored.{Reached, Stops, PassesNoStop}
use Rattle.one_state.specs.Estimate.{IsConsistent, no_estimate, octile_to}
use Rattle.one_state.specs.Instances.{at_first, at_first_plus, besides, bounded}
use Rattle.one_state.specs.Search.{Search, IsSound, Taken, Offers, IsIn, HasCell, IsOffered, IsNext, IsRun}
use Rattle.one_state.specs.Search.{points_to}
use Rattle.one_state.specs.Tested.{is_run}

-- a goal that is taken is taken at the cost of a least walk
abbrev pub GoalsAreLeast : Type 0
GoalsAreLeast = (p : Search) (taken : List Taken) (x : Taken) → IsSound p → IsRun p taken → IsIn x taken
    → x.state.cell ≡ p.goal → IsLeastCost p.grid p.start p.goal x.cost

-- the cells along the parents to a taken cell stand for a legal walk from the start to it, of its cost
abbrev pub ParentsLeadBack : Type 0
ParentsLeadBack = (p : Search) (taken : List Taken) (x : Taken) → IsSound p → IsRun p taken → IsIn x taken
    → StandsForWalk p.grid p.start x.state.cell (points_to taken x.state.cell) x.cost

-- no taken cell is offered at less, by whichever of the taken
abbrev pub TakenAreSettled : Type 0
TakenAreSettled = (p : Search) (taken : List Taken) (x u y : Taken) → IsSound p → IsRun p taken → IsIn x taken
    → IsIn u taken → Offers p u y → y.state.cell ≡ x.state.cell → IsAtMost x.cost y.cost

-- the search goes on, or it is over and no walk leads to the goal
pub data GoesOnOrNone (p : Search) (taken : List Taken) : Type 0 where
  goes_on : (x : Taken) → IsNext p taken x → GoesOnOrNone p taken
  is_over : ((x : Taken) → ¬ IsOffered p taken x) → NoWalk p.grid p.start p.goal → GoesOnOrNone p taken

-- as long as the goal is not taken, one of least sum is offered, or nothing is, and no walk leads there
abbrev pub SearchesEndRight : Type 0
SearchesEndRight = (p : Search) (taken : List Taken) → IsSound p → IsRun p taken → ¬ HasCell taken p.goal
    → GoesOnOrNone p taken

-- no more cells are taken than the map has
abbrev pub TakenAreFew : Type 0
TakenAreFew = (p : Search) (taken : List Taken) → IsSound p → IsRun p taken
    → length taken ≤ p.grid.height * p.grid.width

-- the octile distance is consistent, and so is 0
abbrev pub OctileIsConsistent : Type 0
OctileIsConsistent = (g : GridData) (goal : Cell) → IsConsistent g goal (octile_to goal)

abbrev pub NothingIsConsistent : Type 0
NothingIsConsistent = (g : GridData) (goal : Cell) → IsConsistent g goal no_estimate

-- with stops at first stops alone none of these is passed
abbrev pub FirstIsInTime : Type 0
FirstIsInTime = (g : GridData) (goal : Cell) (u : Reached) → PassesNoStop g goal (at_first g goal) u

-- nor with any further ones besides
abbrev pub FurtherIsInTime : Type 0
FurtherIsInTime = (extra : Stops) (g : GridData) (goal : Cell) (u : Reached)
    → PassesNoStop g goal (besides extra g goal) u

-- nor where each jump is cut after so many moves
abbrev pub BoundedIsInTime : Type 0
BoundedIsInTime = (most : ℕ) → 1 ≤ most → (g : GridData) (goal : Cell) (u : Reached)
    → PassesNoStop g goal (bounded most g goal) u

-- nor with those of published JPS+
abbrev pub PlusIsInTime : Type 0
PlusIsInTime = (g : GridData) (goal : Cell) (u : Reached) → PassesNoStop g goal (at_first_plus g goal) u

-- a list is a run exactly where the test says so
abbrev pub RunsAreDecided : Type 0
RunsAreDecided = (p : Search) (taken : List Taken) → Tells (is_run p taken) (IsRun p taken)
