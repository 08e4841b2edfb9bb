-- With one state for each cell the run of jumps is one of the searches of one_state: by the octile estimate,
-- with first stops alone; among equal sums the least cell number decides, among equal offers the first.
use Rattle.std.specs.Prelude.{◌≡◌, List, map, reverse, MatchOption}
use Rattle.root2_cost.specs.declared.Cost.{Cost}
use Rattle.grid_moves.specs.declared.Cell.{Cell}
use Rattle.grid_moves.specs.Grid.{GridData}
use Rattle.best_first.specs.declared.found.Found.{Found}
use Rattle.best_first.specs.declared.state.Layout.TheVariants.{ByCell}
use Rattle.best_first.specs.State.{state_number}
use Rattle.one_state.specs.Estimate.{octile_to}
use Rattle.one_state.specs.Instances.{at_first}
use Rattle.one_state.specs.Search.{Search, Taken, IsIn, HasCell, IsOffered, IsRun}
use Rattle.search_core.specs.Answer.{IsJumpRun}
use Rattle.search_core.specs.Jumps.{state_at}

-- the search
abbrev pub search_by_cell : GridData → Cell → Cell → Search
search_by_cell g s t = record { grid = g; start = s; goal = t; estimate = octile_to t; stops = at_first g t }

-- t was taken at this cost
pub record IsTakenAt (taken : List Taken) (t : Cell) (cost : Cost) : Type 0 where
  pub by : Taken
  pub member : IsIn by taken
  pub is : by.state.cell ≡ t
  pub priced : by.cost ≡ cost

-- the goal was not taken, and nothing is offered
pub record IsOver (p : Search) (taken : List Taken) : Type 0 where
  pub not_there : ¬ HasCell taken p.goal
  pub nothing : (x : Taken) → ¬ IsOffered p taken x

-- the answer is that of such a search at its end: it shows what was taken, in order, and t was taken at the
-- cost of its walk; where it has none, the search is over without t
pub record IsBySuch (g : GridData) (s t : Cell) (f : Found) : Type 0 where
  pub taken : List Taken
  pub are : IsRun (search_by_cell g s t) taken
  pub numbered : f.taken ≡ reverse (map (λ u. state_number g.width (state_at u.state)) taken)
  pub ended : MatchOption f.walk (IsOver (search_by_cell g s t) taken) (λ w. IsTakenAt taken t w.cost)

-- so is each answer that is the jump engines' run with one state for each cell
abbrev pub RunsByCellAreSuch : Type 0
RunsByCellAreSuch = (g : GridData) (s t : Cell) (f : Found) → IsJumpRun ByCell g s t f → IsBySuch g s t f
