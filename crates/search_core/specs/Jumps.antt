-- The rule of the jump engines: links are the jumps to first stops. A state is a cell and the direction in
-- which it was come to, or a cell alone, with the direction in which it lies from where it was come to from.
-- Harabor and Grastien: AAAI 2011, and SoCS 2012 where no corner is cut.
use Rattle.std.specs.Prelude.{◌≡◌, ℕ, true, false, refl, Option, Some, None, option_and_then, if◌then◌else◌}
use Rattle.std.specs.Prelude.{codes}
use Rattle.root2_cost.specs.declared.Cost.{Cost}
use Rattle.grid_moves.specs.declared.Cell.{Cell}
use Rattle.grid_moves.specs.declared.Corner.TheVariants.{Never, One}
use Rattle.grid_moves.specs.declared.Dir.{Dir}
use Rattle.grid_moves.specs.declared.Dir.TheVariants.{E, SE, S}
use Rattle.grid_moves.specs.Grid.{GridData, grid_of}
use Rattle.grid_moves.specs.Move.{is_same}
use Rattle.grid_moves.specs.Examples.{pillar}
use Rattle.pruning.specs.declared.Arrival.{Arrival}
use Rattle.pruning.specs.declared.Arrival.TheVariants.{Start, By}
use Rattle.pruning.specs.Allowed.{come_to, is_allowed}
use Rattle.pruning.specs.Chain.{run_cost, State as Stop}
use Rattle.pruning.specs.First.{first_stop}
use Rattle.pruning.specs.Marked.{run_end}
use Rattle.search_run.specs.Run.{Rule}
use Rattle.best_first.specs.declared.state.Layout.{Layout}
use Rattle.best_first.specs.declared.state.Layout.TheVariants.{ByCell}
use Rattle.best_first.specs.declared.state.State.{State}
use Rattle.best_first.specs.Rule.{Links, search_rule}
use Rattle.best_first.specs.State.{start_at, state_in, arrived_in, is_seen, is_same_state}

-- a state of a chain of jumps as a search has it
abbrev pub come_in : Arrival → Option Dir
come_in Start = None
come_in (By d) = Some d

abbrev pub state_at : Stop → State
state_at s = record { cell = s.cell; arrival = come_in s.arrival }

-- what k moves in d from x cost, where they lead to v
abbrev pub landing : GridData → Cell → Cell → Dir → ℕ → Option Cost
landing g x v d k = option_and_then (λ u. if is_same u v then Some (run_cost d k) else None) (run_end g d k x)

-- what the jump in d from u costs, where d is allowed at u and v is the first stop
abbrev pub jump_in : GridData → Cell → State → Cell → Dir → Option Cost
jump_in g goal u v d =
    if is_allowed g u.cell (come_to u.arrival) d
    then option_and_then (landing g u.cell v d) (first_stop g goal u.cell d)
    else None

-- what it costs to go on from u to v: the jump in the direction in which v is come to
abbrev pub jump_link : GridData → Cell → State → State → Option Cost
jump_link g goal u v = option_and_then (jump_in g goal u v.cell) v.arrival

-- the links of a search for a goal: from a state, as it was come to, to a state that the search may see, as
-- it is come to; a node's place has its state as it was come to
abbrev pub jump_links : Layout → GridData → Cell → Links
jump_links layout g goal = record {
  step = λ p u v. if is_seen layout v
      then jump_link g goal (arrived_in layout p u) (arrived_in layout u v) else None;
  led = λ p v. is_same_state v (arrived_in layout p v);
  arrived = arrived_in layout;
}

-- the rule of such a search: with a state for each arrival at a cell, or with one for each cell, which keeps
-- the first arrival of least cost
abbrev pub jump_rule : Layout → GridData → Cell → Rule State
jump_rule layout g goal = search_rule g.width goal (jump_links layout g goal)

abbrev cell : ℕ → ℕ → Cell
cell x y = record { x = x; y = y }

-- a state that was come to
abbrev by : Dir → ℕ → ℕ → State
by d x y = record { cell = cell x y; arrival = Some d }

-- round a pillar, to the lower right: from the start to the right or down, and from there to the goal
pub to_the_right : jump_link (pillar Never) (cell 2 2) (start_at (cell 0 0)) (by E 2 0)
    ≡ Some (record { a = 2; b = 0 })
to_the_right = refl

pub downwards : jump_link (pillar Never) (cell 2 2) (start_at (cell 0 0)) (by S 0 2)
    ≡ Some (record { a = 2; b = 0 })
downwards = refl

pub on_to_the_goal : jump_link (pillar Never) (cell 2 2) (by E 2 0) (by S 2 2)
    ≡ Some (record { a = 2; b = 0 })
on_to_the_goal = refl

-- a jump stops at its first stop alone, and only in allowed directions
pub no_stop_before : jump_link (pillar Never) (cell 2 2) (start_at (cell 0 0)) (by E 1 0) ≡ None
no_stop_before = refl

pub not_back : jump_link (pillar Never) (cell 2 2) (by E 2 0) (by E 0 0) ≡ None
not_back = refl

-- where a corner may be cut the way leads past the pillar, by a move less
pub past_the_pillar : jump_link (pillar One) (cell 2 2) (by E 1 0) (by SE 2 1)
    ≡ Some (record { a = 0; b = 1 })
past_the_pillar = refl

-- on `......./....@..` the goal stands before the mark
pub to_the_goal : jump_link (grid_of 7 2 (codes "...........@..") Never) (cell 3 0) (start_at (cell 0 0))
    (by E 3 0)
    ≡ Some (record { a = 3; b = 0 })
to_the_goal = refl

-- on `..../..@.` the goal's row is met at (1,1), but the run to the right of it is closed
abbrev closed_row : GridData
closed_row = grid_of 4 2 (codes "......@.") Never

pub no_stop_in_its_row : jump_link closed_row (cell 3 1) (start_at (cell 0 0)) (by SE 1 1) ≡ None
no_stop_in_its_row = refl

pub round_by_the_right : jump_link closed_row (cell 3 1) (start_at (cell 0 0)) (by E 3 0)
    ≡ Some (record { a = 3; b = 0 })
round_by_the_right = refl

-- on `..@./..../..../....` the marked cell (1,1) stops before the goal (3,3) on the same diagonal
abbrev gap_above : GridData
gap_above = grid_of 4 4 (codes "..@.............") Never

pub to_the_mark : jump_link gap_above (cell 3 3) (start_at (cell 0 0)) (by SE 1 1)
    ≡ Some (record { a = 0; b = 1 })
to_the_mark = refl

pub mark_to_goal : jump_link gap_above (cell 3 3) (by SE 1 1) (by SE 3 3) ≡ Some (record { a = 0; b = 2 })
mark_to_goal = refl

-- with one state for each cell the same jumps lead from cell to cell: how a cell was come to follows from
-- where it lies from the one before
pub on_by_cell : (jump_links ByCell (pillar Never) (cell 2 2)).step (start_at (cell 0 0))
    (start_at (cell 2 0))
    (start_at (cell 2 2))
    ≡ Some (record { a = 2; b = 0 })
on_by_cell = refl

-- on `.../.@./.../@@.` the cell (2,2) is come to from (0,2) and from (2,0): two states by arrival, by cell
-- one, to which both offer the same cost
abbrev two_ways : GridData
two_ways = grid_of 3 4 (codes "....@....@@.") Never

pub from_the_left : (jump_links ByCell two_ways (cell 2 3)).step (start_at (cell 0 0)) (start_at (cell 0 2))
    (start_at (cell 2 2))
    ≡ Some (record { a = 2; b = 0 })
from_the_left = refl

pub from_above : (jump_links ByCell two_ways (cell 2 3)).step (start_at (cell 0 0)) (start_at (cell 2 0))
    (start_at (cell 2 2))
    ≡ Some (record { a = 2; b = 0 })
from_above = refl

pub apart_by_arrival : is_same_state (by E 2 2) (by S 2 2) ≡ false
apart_by_arrival = refl

pub one_by_cell : is_same_state (state_in ByCell (by E 2 2)) (state_in ByCell (by S 2 2)) ≡ true
one_by_cell = refl

-- what was come to from below does not go on down
pub not_back_by_cell : (jump_links ByCell (pillar Never) (cell 2 2)).step (start_at (cell 2 2))
    (start_at (cell 2 0)) (start_at (cell 2 2))
    ≡ None
not_back_by_cell = refl

-- where a cell has one state, no other is seen
pub no_other_by_cell : (jump_links ByCell (pillar Never) (cell 2 2)).step (start_at (cell 0 0))
    (start_at (cell 2 0)) (by S 2 2)
    ≡ None
no_other_by_cell = refl
