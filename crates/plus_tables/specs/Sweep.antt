-- What sweeps leave behind.
use Rattle.std.specs.Prelude.{◌≡◌, ℕ, ◌+◌, ◌-◌, Bool, true, false, not, ◌&&◌, ◌||◌, nat_lt, nat_le}
use Rattle.grid_moves.specs.declared.Cell.{Cell}
use Rattle.grid_moves.specs.declared.Dir.{Dir}
use Rattle.grid_moves.specs.declared.Dir.TheVariants.{N, NE, E, SE, S, SW, W, NW}
use Rattle.grid_moves.specs.Grid.{GridData, is_inside}
use Rattle.plus_tables.specs.declared.heading.Heading.{Heading}
use Rattle.plus_tables.specs.declared.heading.Heading.TheVariants.{Upwards, Downwards}
use Rattle.plus_tables.specs.Entry.{table_entry}
use Rattle.plus_tables.specs.Rows.{is_along}
use Rattle.plus_tables.specs.Tables.{TablesData, AreSized, entry_at}

-- the entries of some cells and directions are the grid's
pub record AreRight (t : TablesData) (g : GridData) (done : Cell → Dir → Bool) : Type 0 where
  pub sized : AreSized t g
  pub right : (c : Cell) (d : Dir) → is_inside g c ≡ true → done c d ≡ true
      → entry_at t c d ≡ table_entry g c d

-- the direction leads up, or along a row
abbrev pub is_upward : Dir → Bool
is_upward N = true
is_upward NE = true
is_upward E = true
is_upward SE = false
is_upward S = false
is_upward SW = false
is_upward W = true
is_upward NW = true

-- and down
abbrev pub is_downward : Dir → Bool
is_downward e = not (is_upward e)

-- up, and not along a row: a sweep sees it lead ahead
abbrev pub is_ahead : Dir → Bool
is_ahead e = is_upward e && not (is_along e)

-- those that lead up or along a row, in the rows above this one
abbrev pub above : ℕ → Cell → Dir → Bool
above y c d = is_upward d && nat_lt c.y y

-- all of these, and those that lead down in the rows from this one on
abbrev pub from_row : ℕ → Cell → Dir → Bool
from_row y c d = is_upward d || nat_le y c.y

-- the directions that a sweep tells: where it heads up those along the row too
abbrev pub is_swept : Heading → Dir → Bool
is_swept Upwards e = is_upward e
is_swept Downwards e = is_downward e

-- the row that is swept after so many, and what is right by then
abbrev pub nth_row : Heading → ℕ → ℕ → ℕ
nth_row Upwards height n = n
nth_row Downwards height n = height - (n + 1)

abbrev pub swept : Heading → ℕ → ℕ → Cell → Dir → Bool
swept Upwards height n = above n
swept Downwards height n = from_row (height - n)

-- the row that is swept after row y
abbrev pub IsNext : Heading → ℕ → ℕ → Type 0
IsNext Upwards y n = n ≡ y + 1
IsNext Downwards y n = y ≡ n + 1
