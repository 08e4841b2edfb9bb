-- What the sweeps keep from row to row.
use Rattle.std.specs.Prelude.{◌≡◌, ℕ, ◌+◌, ◌<◌, false, length, replicate}
use Rattle.grid_moves.specs.declared.Dir.TheVariants.{N, NE, E, W, NW}
use Rattle.grid_moves.specs.Grid.{GridData}
use Rattle.grid_moves.specs.Move.{row_ahead}
use Rattle.plus_tables.specs.declared.lines.Line.{Line}
use Rattle.plus_tables.specs.declared.lines.Band.{Band}
use Rattle.plus_tables.specs.declared.lines.Rows.{Rows}
use Rattle.plus_tables.specs.declared.heading.Heading.{Heading}
use Rattle.plus_tables.specs.Rows.{AreSame, IsFlagRow, IsEntryRow, IsRowAt, dir_seen, AreRowsSeen}

-- each of the five rows has one entry for each column, one before and one after
pub record IsLong (g : GridData) (line : Line) : Type 0 where
  pub ahead : length line.ahead.items ≡ g.width + 2
  pub ahead_east : length line.ahead_east.items ≡ g.width + 2
  pub ahead_west : length line.ahead_west.items ≡ g.width + 2
  pub east : length line.east.items ≡ g.width + 2
  pub west : length line.west.items ≡ g.width + 2

-- these are the entries of a row for the directions that lead ahead
pub record AreAhead (g : GridData) (h : Heading) (y : ℕ) (line : Line) : Type 0 where
  pub ahead : IsEntryRow g y (dir_seen h N) line.ahead.items
  pub ahead_east : IsEntryRow g y (dir_seen h NE) line.ahead_east.items
  pub ahead_west : IsEntryRow g y (dir_seen h NW) line.ahead_west.items

-- and for those along the row
pub record AreAlong (g : GridData) (y : ℕ) (line : Line) : Type 0 where
  pub east : IsEntryRow g y E line.east.items
  pub west : IsEntryRow g y W line.west.items

-- the rows of flags are those of row y, of the next row and of the row beyond it; back holds any row
pub record IsBand (g : GridData) (h : Heading) (y : ℕ) (band : Band) : Type 0 where
  pub ahead : ℕ
  pub far_row : ℕ
  pub back_row : ℕ
  pub ahead_is : IsRowAt (row_ahead (dir_seen h N) y) ahead
  pub far_is : IsFlagRow g far_row band.far.items
  pub next_is : IsFlagRow g ahead band.next.items
  pub here_is : IsFlagRow g y band.here.items
  pub back_is : IsFlagRow g back_row band.back.items
  pub around_next : ahead < 4096 → AreRowsSeen g h ahead band.far.items band.next.items band.here.items

-- the four rows of flags are the same
pub record AreAlike (band : Band) : Type 0 where
  pub far : AreSame band.far.items band.next.items
  pub next : AreSame band.next.items band.here.items
  pub here : AreSame band.here.items band.back.items

-- before row y is swept: the rows of flags around it and around the next row, and the entries of the next row
pub record IsReady (g : GridData) (h : Heading) (y : ℕ) (band : Band) (line : Line) : Type 0 where
  pub rows : IsBand g h y band
  pub long : IsLong g line
  pub ahead_right : AreAhead g h rows.ahead line
  pub along : AreAlong g rows.ahead line

-- all that is kept before row y is swept
pub record IsKept (g : GridData) (h : Heading) (y : ℕ) (rows : Rows) : Type 0 where
  pub ready : IsReady g h y rows.band rows.last
  pub long : IsLong g rows.this
  pub forced : length rows.forced.items ≡ g.width + 2

-- before any row is: no flag is set
pub record IsBlank (g : GridData) (rows : Rows) : Type 0 where
  pub far : rows.band.far.items ≡ replicate (g.width + 2) false
  pub next : rows.band.next.items ≡ replicate (g.width + 2) false
  pub here : rows.band.here.items ≡ replicate (g.width + 2) false
  pub back : rows.band.back.items ≡ replicate (g.width + 2) false
  pub last : IsLong g rows.last
  pub this : IsLong g rows.this
  pub forced : length rows.forced.items ≡ g.width + 2
