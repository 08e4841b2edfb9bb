-- The rule of the boxed search: the plain rule with one change, that a taken cell offers a move only where
-- its box in the move's direction holds the goal.
use Rattle.std.specs.Prelude.{Bool, false, ◌&&◌, ◌||◌, List, [], ◌∷◌, Option, Some, None, if◌then◌else◌}
use Rattle.root2_cost.specs.declared.Cost.{Cost}
use Rattle.grid_moves.specs.declared.Cell.{Cell}
use Rattle.grid_moves.specs.declared.Dir.{Dir}
use Rattle.grid_moves.specs.Grid.{GridData}
use Rattle.grid_moves.specs.Move.{all_dirs}
use Rattle.search_run.specs.Run.{Rule}
use Rattle.best_first.specs.declared.state.State.{State}
use Rattle.best_first.specs.Rule.{Links, search_rule}
use Rattle.plain_search.specs.Rule.{plain_links, plain_step, is_led}
use Rattle.goal_boxes.specs.declared.area.Area.{Area}
use Rattle.goal_boxes.specs.Box.{BoxTeller, holds}

-- there is a box, and it holds the cell
abbrev pub is_toward : Cell → Option Area → Bool
is_toward t None = false
is_toward t (Some a) = holds a t

-- v lies ahead of u in this direction, and the box of u in it holds t
abbrev pub leads_toward : BoxTeller → Cell → Cell → Cell → Dir → Bool
leads_toward box t u v d = is_toward t (box u d) && is_led u v (Some d)

-- that is so for one of these directions
abbrev pub is_toward_by : BoxTeller → Cell → Cell → Cell → List Dir → Bool
is_toward_by box t u v [] = false
is_toward_by box t u v (d ∷ dirs) = leads_toward box t u v d || is_toward_by box t u v dirs

-- a link of the plain engine, where the box of the move's direction holds t
abbrev pub boxed_step : GridData → BoxTeller → Cell → State → State → Option Cost
boxed_step g box t u v = if is_toward_by box t u.cell v.cell all_dirs then plain_step g u v else None

abbrev pub boxed_links : GridData → BoxTeller → Cell → Links
boxed_links g box t = record {
  step = λ p u v. boxed_step g box t u v;
  led = (plain_links g).led;
  arrived = (plain_links g).arrived;
}

-- the rule of a search for t
abbrev pub boxed_rule : GridData → BoxTeller → Cell → Rule State
boxed_rule g box t = search_rule g.width t (boxed_links g box t)
