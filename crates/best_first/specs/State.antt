-- States of a search: a cell and how it was come to.
use Rattle.std.specs.Prelude.{◌≡◌, ℕ, ◌+◌, ◌*◌, ◌/◌, ◌%◌, Bool, true, nat_eq, nat_lt, ◌&&◌, refl}
use Rattle.std.specs.Prelude.{Option, Some, None, if◌then◌else◌}
use Rattle.grid_moves.specs.declared.Cell.{Cell}
use Rattle.grid_moves.specs.declared.Dir.{Dir}
use Rattle.grid_moves.specs.declared.Dir.TheVariants.{N, NE, E, SE, S, SW, W, NW}
use Rattle.grid_moves.specs.Grid.{cell_number}
use Rattle.grid_moves.specs.Move.{is_same, dir_number, dir_of_number}
use Rattle.best_first.specs.declared.state.State.{State}
use Rattle.best_first.specs.declared.state.Layout.{Layout}
use Rattle.best_first.specs.declared.state.Layout.TheVariants.{ByCell, ByArrival}
use Rattle.best_first.specs.declared.place.Place.{Place}

-- the direction's number, or 8 for the start
abbrev pub arrival_number : Option Dir → ℕ
arrival_number (Some d) = dir_number d
arrival_number None = 8

-- the printed number: nine times the cell's, and the arrival's
abbrev pub state_number : ℕ → State → ℕ
state_number width s = cell_number width s.cell * 9 + arrival_number s.arrival

-- the states are one state
abbrev pub is_same_state : State → State → Bool
is_same_state s t = is_same s.cell t.cell && nat_eq (arrival_number s.arrival) (arrival_number t.arrival)

-- the start of a search: it was not come to
abbrev pub start_at : Cell → State
start_at c = record { cell = c; arrival = None }

-- the state in which a search sees what a node was made for: without its arrival where a cell has one state
abbrev pub state_in : Layout → State → State
state_in ByCell s = start_at s.cell
state_in ByArrival s = s

-- the direction in which the second cell lies from the first; where it lies neither straight nor diagonally
-- from it, the diagonal between, in which no run leads there
abbrev pub heading : Cell → Cell → Option Dir
heading u v =
    if nat_lt u.x v.x
    then Some (if nat_lt v.y u.y then NE else if nat_lt u.y v.y then SE else E)
    else if nat_lt v.x u.x
    then Some (if nat_lt v.y u.y then NW else if nat_lt u.y v.y then SW else W)
    else if nat_lt v.y u.y then Some N
    else if nat_lt u.y v.y then Some S
    else None

-- how the second state was come to from the first: where a cell has one state, that hangs on where it lies
abbrev pub arrival_from : Layout → State → State → Option Dir
arrival_from ByCell p s = heading p.cell s.cell
arrival_from ByArrival p s = s.arrival

-- the second state with that arrival
abbrev pub arrived_in : Layout → State → State → State
arrived_in layout p s = record { cell = s.cell; arrival = arrival_from layout p s }

-- a search with this layout may see the state: where a cell has one state, it is that of a start
abbrev pub is_seen : Layout → State → Bool
is_seen ByCell s = nat_eq (arrival_number s.arrival) 8
is_seen ByArrival s = true

-- row, column and arrival in one number, ordered as the numbers of states are
unfoldable pub place_of : State → Place
place_of s = record { bits = s.cell.y * 65536 + (s.cell.x * 16 + arrival_number s.arrival) }

-- what such a number tells
unfoldable pub state_of_place : Place → State
state_of_place p = record {
  cell = record { x = p.bits / 16 % 4096; y = p.bits / 65536 };
  arrival = dir_of_number (p.bits % 16);
}

-- to the lower right, to the left, and nowhere
pub lower_right : heading (record { x = 0; y = 0 }) (record { x = 2; y = 2 }) ≡ Some SE
lower_right = refl

pub to_the_left : heading (record { x = 4; y = 1 }) (record { x = 1; y = 1 }) ≡ Some W
to_the_left = refl

pub nowhere : heading (record { x = 3; y = 1 }) (record { x = 3; y = 1 }) ≡ None
nowhere = refl

-- by cell (2,2), come to from (2,0), is printed as the state with arrival S, on a map of 3 columns: 9 · 8 + 4
pub printed_by_cell : state_number 3 (arrived_in ByCell (start_at (record { x = 2; y = 0 }))
    (start_at (record { x = 2; y = 2 })))
    ≡ 76
printed_by_cell = refl

-- column 5 of row 2, come to from the north
pub place_and_back :
    state_of_place (place_of (record { cell = record { x = 5; y = 2 }; arrival = Some S }))
    ≡ record { cell = record { x = 5; y = 2 }; arrival = Some S }
unfolding place_of state_of_place
place_and_back = refl

-- the same cell as a start, on a map of 7 columns: 9 · 19 + 8
pub start_number : state_number 7 (start_at (record { x = 5; y = 2 })) ≡ 179
start_number = refl
