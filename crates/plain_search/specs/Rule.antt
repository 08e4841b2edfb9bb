-- The rule of the plain engine: one state for each cell, that of a start, and every legal move.
use Rattle.std.specs.Prelude.{Bool, true, false, Option, Some, None, if◌then◌else◌}
use Rattle.std.specs.Option.{option_map_or}
use Rattle.root2_cost.specs.declared.Cost.{Cost}
use Rattle.grid_moves.specs.declared.Cell.{Cell}
use Rattle.grid_moves.specs.declared.Dir.{Dir}
use Rattle.grid_moves.specs.Grid.{GridData}
use Rattle.grid_moves.specs.Move.{is_legal, is_same, move_cost, ahead}
use Rattle.search_run.specs.Run.{Rule}
use Rattle.best_first.specs.declared.state.State.{State}
use Rattle.best_first.specs.Rule.{Links, search_rule}

-- what a move costs, where it is legal and leads to the state of a start
abbrev pub move_link : GridData → Cell → Cell → Option Dir → Option Cost
move_link g u v None = if is_legal g u v then Some (move_cost u v) else None
move_link g u v (Some d) = None

-- what a node's place tells besides its state: in which direction the parent's move leads to it
abbrev pub is_led : Cell → Cell → Option Dir → Bool
is_led u v None = true
is_led u v (Some d) = option_map_or (λ c. is_same c v) (ahead d u) false

-- what it costs to go on from one state to the next, whatever the search came to the first from
abbrev pub plain_step : GridData → State → State → Option Cost
plain_step g u v = move_link g u.cell v.cell v.arrival

-- the links of the plain engine
abbrev pub plain_links : GridData → Links
plain_links g = record {
  step = λ p u v. plain_step g u v;
  led = λ u v. is_led u.cell v.cell v.arrival;
  arrived = λ p s. s;
}

-- the rule of a search for t
abbrev pub plain_rule : GridData → Cell → Rule State
plain_rule g t = search_rule g.width t (plain_links g)
