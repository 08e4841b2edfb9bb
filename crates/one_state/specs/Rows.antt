-- Worked rows: runs by other ties than this project's, under each corner rule; and lists that are no runs.
-- On `.../.@./...` from the upper left to the lower right, counted by hand;
-- whether a list is a run is computed.
use Rattle.std.specs.Prelude.{◌≡◌, ℕ, true, false, refl, List, [], ◌∷◌, ◌&&◌, not, codes, if◌then◌else◌}
use Rattle.root2_cost.specs.Signed.{signed_of}
use Rattle.grid_moves.specs.declared.Cell.{Cell}
use Rattle.grid_moves.specs.declared.Corner.{Corner}
use Rattle.grid_moves.specs.declared.Corner.TheVariants.{Never, One, Both}
use Rattle.grid_moves.specs.declared.Dir.{Dir}
use Rattle.grid_moves.specs.declared.Dir.TheVariants.{E, SE, S}
use Rattle.grid_moves.specs.Grid.{GridData, grid_of}
use Rattle.grid_moves.specs.Move.{is_dir, is_same}
use Rattle.grid_moves.specs.Examples.{pillar}
use Rattle.pruning.specs.declared.Arrival.TheVariants.{Start, By}
use Rattle.pruning.specs.Explored.{Reached, Stops, PassesNoStop}
use Rattle.one_state.specs.Estimate.{Estimate, IsConsistent, no_estimate, octile_to}
use Rattle.one_state.specs.Instances.{at_first, at_first_plus, besides, bounded}
use Rattle.one_state.specs.Search.{Search, Taken}
use Rattle.one_state.specs.Tested.{is_run}

abbrev pub cell : ℕ → ℕ → Cell
cell x y = record { x = x; y = y }

abbrev pub end : Cell
end = cell 2 2

-- a search round the pillar, with first stops alone
abbrev round : Corner → Estimate → Search
round corner h = record {
  grid = pillar corner;
  start = cell 0 0;
  goal = end;
  estimate = h;
  stops = at_first (pillar corner) end;
}

-- (x, y) was taken by d, at a straight and b diagonal moves, from that cell
abbrev taken : ℕ → ℕ → Dir → ℕ → ℕ → Cell → Taken
taken x y d a b parent = record {
  state = record { cell = cell x y; arrival = By d };
  cost = record { a = a; b = b };
  parent = parent;
}

abbrev start : Taken
start = record {
  state = record { cell = cell 0 0; arrival = Start };
  cost = record { a = 0; b = 0 };
  parent = cell 0 0;
}

-- two ways round, each of a least sum; this project takes the upper one first, and then both
pub below_first : is_run (round Never (octile_to end))
    (taken 2 2 E 4 0 (cell 0 2) ∷ taken 0 2 S 2 0 (cell 0 0) ∷ start ∷ []) ≡ true
below_first = refl

pub above_alone : is_run (round Never (octile_to end))
    (taken 2 2 S 4 0 (cell 2 0) ∷ taken 2 0 E 2 0 (cell 0 0) ∷ start ∷ []) ≡ true
above_alone = refl

pub below_first-one : is_run (round One (octile_to end))
    (taken 2 2 E 2 1 (cell 1 2) ∷ taken 1 2 SE 1 1 (cell 0 1) ∷ taken 0 1 S 1 0 (cell 0 0)
    ∷ start ∷ []) ≡ true
below_first-one = refl

pub above_alone-one : is_run (round One (octile_to end))
    (taken 2 2 S 2 1 (cell 2 1) ∷ taken 2 1 SE 1 1 (cell 1 0) ∷ taken 1 0 E 1 0 (cell 0 0)
    ∷ start ∷ []) ≡ true
above_alone-one = refl

pub below_first-both : is_run (round Both (octile_to end))
    (taken 2 2 E 2 1 (cell 1 2) ∷ taken 1 2 SE 1 1 (cell 0 1) ∷ taken 0 1 S 1 0 (cell 0 0)
    ∷ start ∷ []) ≡ true
below_first-both = refl

pub above_alone-both : is_run (round Both (octile_to end))
    (taken 2 2 S 2 1 (cell 2 1) ∷ taken 2 1 SE 1 1 (cell 1 0) ∷ taken 1 0 E 1 0 (cell 0 0)
    ∷ start ∷ []) ≡ true
above_alone-both = refl

-- with no estimate all that costs less goes first; of two equal offers of the goal the later one stays, where
-- this project keeps the first
pub by_costs : is_run (round Never no_estimate)
    (taken 2 2 S 4 0 (cell 2 0) ∷ taken 2 0 E 2 0 (cell 0 0) ∷ taken 0 2 S 2 0 (cell 0 0) ∷ start ∷ []) ≡ true
by_costs = refl

abbrev by_costs_past_it : List Taken
by_costs_past_it = taken 2 2 S 2 1 (cell 2 1) ∷ taken 2 1 SE 1 1 (cell 1 0) ∷ taken 1 2 SE 1 1 (cell 0 1)
    ∷ taken 1 0 E 1 0 (cell 0 0) ∷ taken 0 1 S 1 0 (cell 0 0) ∷ start ∷ []

pub by_costs-one : is_run (round One no_estimate) by_costs_past_it ≡ true
by_costs-one = refl

pub by_costs-both : is_run (round Both no_estimate) by_costs_past_it ≡ true
by_costs-both = refl

-- besides at each cell of a run up to its first stop
abbrev at_all : Stops
at_all u d k = true

abbrev everywhere : Corner → Estimate → Search
everywhere corner h = record {
  grid = pillar corner;
  start = cell 0 0;
  goal = end;
  estimate = h;
  stops = besides at_all (pillar corner) end;
}

pub cell_by_cell : is_run (everywhere Never (octile_to end))
    (taken 2 2 S 4 0 (cell 2 0) ∷ taken 2 0 E 2 0 (cell 1 0) ∷ taken 0 1 S 1 0 (cell 0 0)
    ∷ taken 1 0 E 1 0 (cell 0 0) ∷ start ∷ []) ≡ true
cell_by_cell = refl

abbrev to_the_corner : List Taken
to_the_corner = taken 2 0 E 2 0 (cell 1 0) ∷ taken 0 1 S 1 0 (cell 0 0)
    ∷ taken 1 0 E 1 0 (cell 0 0) ∷ start ∷ []

pub to_the_corner-one : is_run (everywhere One no_estimate) to_the_corner ≡ true
to_the_corner-one = refl

pub to_the_corner-both : is_run (everywhere Both no_estimate) to_the_corner ≡ true
to_the_corner-both = refl

-- step by step, with no jump at all
abbrev steps : Corner → Search
steps corner = record {
  grid = pillar corner;
  start = cell 0 0;
  goal = end;
  estimate = octile_to end;
  stops = bounded 1 (pillar corner) end;
}

pub step_by_step : is_run (steps Never)
    (taken 2 2 S 4 0 (cell 2 1) ∷ taken 2 1 S 3 0 (cell 2 0) ∷ taken 2 0 E 2 0 (cell 1 0)
    ∷ taken 0 1 S 1 0 (cell 0 0) ∷ taken 1 0 E 1 0 (cell 0 0) ∷ start ∷ []) ≡ true
step_by_step = refl

abbrev past_it : List Taken
past_it = taken 2 2 S 2 1 (cell 2 1) ∷ taken 2 1 SE 1 1 (cell 1 0) ∷ taken 1 0 E 1 0 (cell 0 0) ∷ start ∷ []

pub step_by_step-one : is_run (steps One) past_it ≡ true
step_by_step-one = refl

pub step_by_step-both : is_run (steps Both) past_it ≡ true
step_by_step-both = refl

-- on `..../..@.` the goal's row is met at (1,1), but the run to the right of it is closed: published JPS+
-- stops there all the same
abbrev closed_row : Corner → GridData
closed_row corner = grid_of 4 2 (codes "......@.") corner

abbrev into_the_row : Corner → (GridData → Cell → Stops) → Search
into_the_row corner stops = record {
  grid = closed_row corner;
  start = cell 0 0;
  goal = cell 3 1;
  estimate = octile_to (cell 3 1);
  stops = stops (closed_row corner) (cell 3 1);
}

abbrev over_the_top : List Taken
over_the_top = taken 3 1 S 4 0 (cell 3 0) ∷ taken 3 0 E 3 0 (cell 0 0)
    ∷ taken 1 1 SE 0 1 (cell 0 0) ∷ start ∷ []

abbrev past_its_corner : List Taken
past_its_corner = taken 3 1 SE 2 1 (cell 2 0) ∷ taken 2 0 E 2 0 (cell 0 0)
    ∷ taken 1 1 SE 0 1 (cell 0 0) ∷ start ∷ []

pub stops_in_its_row : is_run (into_the_row Never at_first_plus) over_the_top ≡ true
stops_in_its_row = refl

pub stops_in_its_row-one : is_run (into_the_row One at_first_plus) past_its_corner ≡ true
stops_in_its_row-one = refl

pub stops_in_its_row-both : is_run (into_the_row Both at_first_plus) past_its_corner ≡ true
stops_in_its_row-both = refl

-- with first stops alone it doesn't
pub no_stop_in_its_row : is_run (into_the_row Never at_first) over_the_top ≡ false
no_stop_in_its_row = refl

-- no run: one that costs more is taken before one that costs less
pub not_the_least : is_run (round Never no_estimate)
    (taken 2 2 E 4 0 (cell 0 2) ∷ taken 0 2 S 2 0 (cell 0 0) ∷ start ∷ []) ≡ false
not_the_least = refl

-- a stop is passed
pub beyond_the_stop : is_run (everywhere One no_estimate)
    (taken 2 0 E 2 0 (cell 0 0) ∷ taken 0 1 S 1 0 (cell 0 0) ∷ taken 1 0 E 1 0 (cell 0 0)
    ∷ start ∷ []) ≡ false
beyond_the_stop = refl

-- a direction is taken that pruning drops: on `.../...` the diagonal move goes first
abbrev open_rows : GridData
open_rows = grid_of 3 2 (codes "......") Never

abbrev over_the_open : Search
over_the_open = record {
  grid = open_rows;
  start = cell 0 0;
  goal = cell 2 1;
  estimate = octile_to (cell 2 1);
  stops = besides at_all open_rows (cell 2 1);
}

pub dropped_direction : is_run over_the_open
    (taken 2 1 SE 1 1 (cell 1 0) ∷ taken 1 0 E 1 0 (cell 0 0) ∷ start ∷ []) ≡ false
dropped_direction = refl

-- a parent is skipped
pub parent_skipped : is_run (round Never (octile_to end))
    (taken 2 2 E 4 0 (cell 0 0) ∷ taken 0 2 S 2 0 (cell 0 0) ∷ start ∷ []) ≡ false
parent_skipped = refl

-- something is taken behind the goal, a cell twice, a cost is wrong
pub behind_the_goal : is_run (round Never (octile_to end))
    (taken 2 0 E 2 0 (cell 0 0) ∷ taken 2 2 E 4 0 (cell 0 2) ∷ taken 0 2 S 2 0 (cell 0 0)
    ∷ start ∷ []) ≡ false
behind_the_goal = refl

pub taken_twice : is_run (round Never (octile_to end))
    (taken 0 2 S 2 0 (cell 0 0) ∷ taken 0 2 S 2 0 (cell 0 0) ∷ start ∷ []) ≡ false
taken_twice = refl

pub wrong_cost : is_run (round Never (octile_to end)) (taken 0 2 S 1 0 (cell 0 0) ∷ start ∷ []) ≡ false
wrong_cost = refl

-- the octile distance, but a move more at one cell
abbrev one_wrong : Estimate
one_wrong c = if is_same c (cell 2 1) then signed_of (record { a = 2; b = 0 }) else octile_to end c

-- is not consistent
abbrev pub WrongCellIsRefused : Type 0
WrongCellIsRefused = ¬ IsConsistent (pillar Never) end one_wrong

-- stops that leave out a direction past the pillar
abbrev pub without_south : Stops
without_south u d k = at_first (pillar Never) end u d k && not (is_dir d S)

-- come to, in two moves to the right
abbrev pub past_the_pillar : Reached
past_the_pillar = record {
  state = record { cell = cell 2 0; arrival = By E };
  cost = record { a = 2; b = 0 };
}

-- pass the goal by
abbrev pub LeftOutIsRefused : Type 0
LeftOutIsRefused = ¬ PassesNoStop (pillar Never) end without_south past_the_pillar
