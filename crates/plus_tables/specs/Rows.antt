-- Rows of flags and of entries, as the sweeps keep them. What belongs to column x stands at x + 1: one more
-- stands before the first column and one after the last.
use Rattle.std.specs.Prelude.{◌≡◌, ℕ, ◌+◌, ◌-◌, ◌<◌, ◌≤◌, ℤ, pos, Bool, true, false, ◌&&◌, ◌||◌, Option, Some}
use Rattle.std.specs.Prelude.{None, List, length, slice_index_or, if◌then◌else◌}
use Rattle.grid_moves.specs.declared.Cell.{Cell}
use Rattle.grid_moves.specs.declared.Corner.{Corner}
use Rattle.grid_moves.specs.declared.Dir.{Dir}
use Rattle.grid_moves.specs.declared.Dir.TheVariants.{N, NE, E, SE, S, SW, W, NW}
use Rattle.grid_moves.specs.Grid.{GridData, is_free, is_inside}
use Rattle.grid_moves.specs.Move.{row_ahead}
use Rattle.grid_moves.specs.declared.ring.Ring.{Ring}
use Rattle.grid_moves.specs.Ring.{leads_on}
use Rattle.pruning.specs.Turns.{is_diagonal}
use Rattle.pruning.specs.Marked.{is_forced}
use Rattle.pruning.specs.Ring.{forced_on}
use Rattle.plus_tables.specs.declared.heading.Heading.{Heading}
use Rattle.plus_tables.specs.declared.heading.Heading.TheVariants.{Upwards, Downwards}
use Rattle.plus_tables.specs.Entry.{table_entry}
use Rattle.plus_tables.specs.Local.{tells_mark, from_before}
use Rattle.plus_tables.specs.Tables.{IsShort}

-- the flag of a column
abbrev pub flag : List Bool → ℕ → Bool
flag row k = slice_index_or row k false

-- the number of a column
abbrev pub number : List ℤ → ℕ → ℤ
number row k = slice_index_or row k (pos 0)

-- the flags around column x
abbrev pub ring_of : List Bool → List Bool → List Bool → ℕ → Ring
ring_of above here below x = record {
  n = flag above (x + 1);
  ne = flag above (x + 2);
  e = flag here (x + 2);
  se = flag below (x + 2);
  s = flag below (x + 1);
  sw = flag below x;
  w = flag here x;
  nw = flag above x;
}

-- where the column stands to which a move from column x leads
abbrev pub place_after : Dir → ℕ → ℕ
place_after N x = x + 1
place_after NE x = x + 2
place_after E x = x + 2
place_after SE x = x + 2
place_after S x = x + 1
place_after SW x = x
place_after W x = x
place_after NW x = x

-- the entry of a cell, given whether the move is legal, whether the next cell is marked, and its entry
abbrev pub entry_from : Bool → Bool → ℤ → ℤ
entry_from legal mark next = if legal then (if mark then pos 1 else from_before next) else pos 0

-- the move from column x is legal
abbrev pub legal_by : Corner → List Bool → List Bool → List Bool → Dir → ℕ → Bool
legal_by corner above here below d x = flag here (x + 1) && leads_on corner (ring_of above here below x) d

-- the cell at this place is marked: a neighbour is forced there, or an entry of a component tells of a mark
abbrev pub mark_by : List Bool → List ℤ → List ℤ → Dir → ℕ → Bool
mark_by forced right left d at =
    flag forced at || (is_diagonal d && (tells_mark (number right at) || tells_mark (number left at)))

-- the flags of two rows are the same
abbrev pub AreSame : List Bool → List Bool → Type 0
AreSame one other = (k : ℕ) → flag one k ≡ flag other k

-- for each cell of a row whether it is free
pub record IsFlagRow (g : GridData) (y : ℕ) (row : List Bool) : Type 0 where
  pub long : length row ≡ g.width + 2
  pub border : flag row 0 ≡ false
  pub cells : (x : ℕ) → flag row (x + 1) ≡ is_free g (record { x = x; y = y })

-- for each free cell of a row whether a neighbour is forced there after a move
abbrev pub IsForcedRow : GridData → ℕ → Dir → List Bool → Type 0
IsForcedRow g y d row = (v : Cell) → v.y ≡ y → is_free g v ≡ true → flag row (v.x + 1) ≡ is_forced g v d

-- for each cell of a row its entry
abbrev pub IsEntryRow : GridData → ℕ → Dir → List ℤ → Type 0
IsEntryRow g y d row = (v : Cell) → v.y ≡ y → is_inside g v ≡ true → number row (v.x + 1) ≡ table_entry g v d

-- three numbers as the entries of a map are
pub record AreShort (ahead right left : ℤ) : Type 0 where
  pub ahead_is : IsShort ahead
  pub right_is : IsShort right
  pub left_is : IsShort left

-- the entry of one column is made from the rows of flags around it and by what is known of the next row:
-- where a neighbour is forced, and the entries for d and for the directions beside it
abbrev pub IsEntryAs : Corner → List Bool → List Bool → List Bool → List Bool → List ℤ → List ℤ → List ℤ → Dir
    → ℕ → ℤ → Type 0
IsEntryAs corner above here below forced ahead right left d x entry =
    (legal_by corner above here below d x ≡ true → AreShort (number ahead (place_after d x))
    (number right (place_after d x)) (number left (place_after d x)))
    → entry ≡ entry_from (legal_by corner above here below d x)
    (mark_by forced right left d (place_after d x))
    (number ahead (place_after d x))

-- and so are those of so many columns
abbrev pub AreEntriesBelow : Corner → List Bool → List Bool → List Bool → List Bool → List ℤ → List ℤ
    → List ℤ → Dir
    → List ℤ → ℕ → Type 0
AreEntriesBelow corner above here below forced ahead right left d out n =
    (x : ℕ) → x < n → IsEntryAs corner above here below forced ahead right left d x (number out (x + 1))

-- the direction leads along a row
abbrev pub is_along : Dir → Bool
is_along N = false
is_along NE = false
is_along E = true
is_along SE = false
is_along S = false
is_along SW = false
is_along W = true
is_along NW = false

-- the entry of one column for E or W is made from the cells of its row, the places where a neighbour is
-- forced, and the entry of the next column
abbrev pub IsEntryAlong : List Bool → List Bool → Dir → List ℤ → ℕ → Type 0
IsEntryAlong here forced d out x =
    ((flag here (x + 1) && flag here (place_after d x)) ≡ true → IsShort (number out (place_after d x)))
    → number out (x + 1) ≡ entry_from (flag here (x + 1) && flag here (place_after d x))
    (flag forced (place_after d x))
    (number out (place_after d x))

-- n is the number of the row that lies there, or of none on the map where none does
pub record IsRowAt (there : Option ℕ) (n : ℕ) : Type 0 where
  pub some : (k : ℕ) → there ≡ Some k → n ≡ k
  pub none : there ≡ None → 4096 ≤ n

-- a direction on a map that is turned upside down
abbrev pub flipped : Dir → Dir
flipped N = S
flipped NE = SE
flipped E = E
flipped SE = NE
flipped S = N
flipped SW = NW
flipped W = W
flipped NW = SW

-- a sweep that heads down sees the map upside down: what it takes for N is S
abbrev pub dir_seen : Heading → Dir → Dir
dir_seen Upwards d = d
dir_seen Downwards d = flipped d

-- the flags of a row, of the one ahead of it and of the one behind it
pub record AreRowsSeen (g : GridData) (h : Heading) (y : ℕ) (ahead here behind : List Bool) : Type 0 where
  pub front : ℕ
  pub rear : ℕ
  pub front_is : IsRowAt (row_ahead (dir_seen h N) y) front
  pub rear_is : IsRowAt (row_ahead (dir_seen h S) y) rear
  pub ahead_is : IsFlagRow g front ahead
  pub here_is : IsFlagRow g y here
  pub behind_is : IsFlagRow g rear behind

-- what loops that read all columns of a row tell
abbrev pub AreForced : Corner → List Bool → List Bool → List Bool → Dir → List Bool → Type 0
AreForced corner above here below d forced = (x : ℕ) → x < length forced - 2
    → flag forced (x + 1) ≡ forced_on corner (ring_of above here below x) d
