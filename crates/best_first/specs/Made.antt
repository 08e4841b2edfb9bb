-- The answer of a search as a function: of the map's sides, the goal, the links,
-- how a way is shown, and the start.
use Rattle.std.specs.Prelude.{ℕ, zero, suc, Bool, true, false, List, [], ◌∷◌, ◌++◌, map, Option, Some, None}
use Rattle.grid_moves.specs.declared.Cell.{Cell}
use Rattle.grid_moves.specs.declared.Dir.{Dir}
use Rattle.grid_moves.specs.declared.Dir.TheVariants.{N, NE, E, SE, S, SW, W, NW}
use Rattle.path_points.specs.declared.points.Walk.{Walk}
use Rattle.search_run.specs.Made.{run_of}
use Rattle.search_run.specs.Run.{Taken, has_goal, way_to}
use Rattle.best_first.specs.declared.found.Found.{Found}
use Rattle.best_first.specs.declared.state.State.{State}
use Rattle.best_first.specs.Progress.{numbers_of}
use Rattle.best_first.specs.Rule.{Links, search_rule}
use Rattle.best_first.specs.State.{start_at}

-- the states of a cell
abbrev pub arrived_at : Cell → Option Dir → State
arrived_at c a = record { cell = c; arrival = a }

unfoldable pub states_at : Cell → List State
states_at c = arrived_at c None ∷ arrived_at c (Some N) ∷ arrived_at c (Some NE) ∷ arrived_at c (Some E)
    ∷ arrived_at c (Some SE) ∷ arrived_at c (Some S) ∷ arrived_at c (Some SW) ∷ arrived_at c (Some W)
    ∷ arrived_at c (Some NW) ∷ []

-- those of a row, below this column, and of a map, above this row
unfoldable pub states_in_row : ℕ → ℕ → List State
states_in_row y zero = []
states_in_row y (suc x) = states_at (record { x = x; y = y }) ++ states_in_row y x

unfoldable pub states_on_map : ℕ → ℕ → List State
states_on_map width zero = []
states_on_map width (suc y) = states_in_row y width ++ states_on_map width y

module _ (width height : ℕ) (goal : Cell) (link : Links) (shown : List Cell → List Cell) (start : Cell) where
  -- the way to the last of these states, and its cost
  abbrev pub walk_to_last : List (Taken State) → Option Walk
  walk_to_last [] = None
  walk_to_last (x ∷ earlier) = Some (record {
    points = shown (map (λ u. u.cell) (way_to (search_rule width goal link) (x ∷ earlier) x.state));
    cost = x.cost;
  })

  -- what a run answers that took the goal, last, or did not
  abbrev pub answered : List (Taken State) → Bool → Found
  answered run true = record { walk = walk_to_last run; taken = numbers_of width link run }
  answered run false = record { walk = None; taken = numbers_of width link run }

  -- what a run answers
  abbrev pub answer_of : List (Taken State) → Found
  answer_of run = answered run (has_goal (search_rule width goal link) run)

  -- what the run from the start on a map of these sides answers
  unfoldable pub found_of : Found
  found_of = answer_of (run_of (search_rule width goal link) (states_on_map width height) (start_at start))
