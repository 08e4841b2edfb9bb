-- First moves by the costs of a pass from the goal. No public clause cites this module.
use Rattle.std.specs.Prelude.{◌≡◌, ◌*◌, Bool, false, List, length, map, slice_index_or, Option, Some, None}
use Rattle.std.specs.List.{find}
use Rattle.root2_cost.specs.declared.Cost.{Cost}
use Rattle.grid_moves.specs.declared.Cell.{Cell}
use Rattle.grid_moves.specs.declared.Dir.{Dir}
use Rattle.grid_moves.specs.Grid.{GridData, cell_number}
use Rattle.grid_moves.specs.Move.{all_dirs, legal_ahead, move_cost}
use Rattle.cost_waves.specs.Rank.{cost_known}
use Rattle.cost_waves.specs.Stored.{WaveData}
use Rattle.plain_search.specs.Costs.{falls_by}
use Rattle.first_moves.specs.Inward.{IsPassFrom}

-- the cost of a cell
abbrev pub price_at : GridData → List (Option Cost) → Cell → Option Cost
price_at g costs c = slice_index_or costs (cell_number g.width c) None

-- these are the costs of all cells, by a pass from the goal
pub record ArePriced (g : GridData) (goal : Cell) (costs : List (Option Cost)) : Type 0 where
  pub waves : WaveData
  pub pass : IsPassFrom g goal waves
  pub are : costs ≡ map cost_known waves.ranks
  pub whole : length costs ≡ g.height * g.width

-- the cost falls by what the move to a cell costs, if there is one
abbrev pub falls_to : GridData → List (Option Cost) → Cell → Option Cost → Option Cell → Bool
falls_to g costs c here None = false
falls_to g costs c here (Some v) = falls_by (move_cost c v) here (price_at g costs v)

-- the same of the legal move in a direction, if there is one
unfoldable pub leads_by : GridData → List (Option Cost) → Cell → Option Cost → Dir → Bool
leads_by g costs c here d = falls_to g costs c here (legal_ahead g c d)

-- the first direction that leads on
abbrev pub first_by : GridData → List (Option Cost) → Cell → Option Dir
first_by g costs c = find (leads_by g costs c (price_at g costs c)) all_dirs
