-- Entries as they lie in memory, eight for each cell: those of a row, into which the rows of a line are laid,
-- and all that a sweep has made so far.
use Rattle.std.specs.Prelude.{◌≡◌, ℕ, ◌+◌, ◌*◌, ◌<◌, ℤ, true, false, List, length, slice_set}
use Rattle.grid_moves.specs.declared.Dir.{Dir}
use Rattle.grid_moves.specs.declared.Dir.TheVariants.{N, NE, E, W, NW}
use Rattle.grid_moves.specs.Grid.{GridData}
use Rattle.grid_moves.specs.Move.{dir_number}
use Rattle.plus_tables.specs.declared.heading.Heading.{Heading}
use Rattle.plus_tables.specs.declared.heading.Heading.TheVariants.{Upwards, Downwards}
use Rattle.plus_tables.specs.declared.lines.Line.{Line}
use Rattle.plus_tables.specs.Entry.{table_entry}
use Rattle.plus_tables.specs.Rows.{number, is_along, dir_seen}
use Rattle.plus_tables.specs.Tables.{IsShort, TablesData}
use Rattle.plus_tables.specs.Sweep.{AreRight, is_swept, swept}

-- the row of a line for a direction as the sweep sees it, which leads up or along a row
abbrev pub seen_part : Line → Dir → List ℤ
seen_part line NE = line.ahead_east.items
seen_part line E = line.east.items
seen_part line W = line.west.items
seen_part line NW = line.ahead_west.items
seen_part line d = line.ahead.items

abbrev pub part : Heading → Line → Dir → List ℤ
part h line d = seen_part line (dir_seen h d)

-- entries with one of cell x changed
abbrev pub with_entry : List ℤ → ℕ → Dir → ℤ → List ℤ
with_entry row x d entry = slice_set row (x * 8 + dir_number d) entry

-- those for the directions that lead ahead, and with them those along the row where the sweep tells them
abbrev pub with_ahead : Heading → List ℤ → ℕ → ℤ → ℤ → ℤ → List ℤ
with_ahead h row x n ne nw =
    with_entry (with_entry (with_entry row x (dir_seen h N) n) x (dir_seen h NE) ne) x (dir_seen h NW) nw

abbrev pub with_cell : Heading → List ℤ → ℕ → ℤ → ℤ → ℤ → ℤ → ℤ → List ℤ
with_cell Upwards row x n ne nw e w = with_entry (with_entry (with_ahead Upwards row x n ne nw) x E e) x W w
with_cell Downwards row x n ne nw e w = with_ahead Downwards row x n ne nw

-- in the first n cells of a row the entries that a sweep tells are now those of the line, if they are short;
-- the others stay
pub record AreLaid (h : Heading) (line : Line) (n : ℕ) (old new : List ℤ) : Type 0 where
  pub long : length new ≡ length old
  pub entered : (x : ℕ) (e : Dir) → x < n → is_swept h e ≡ true → IsShort (number (part h line e) (x + 1))
      → number new (x * 8 + dir_number e) ≡ number (part h line e) (x + 1)
  pub others : (x : ℕ) (e : Dir) → is_swept h e ≡ false
      → number new (x * 8 + dir_number e) ≡ number old (x * 8 + dir_number e)

-- row y with the entries that a sweep tells, which are the grid's; the others stay
pub record IsRowSwept (g : GridData) (h : Heading) (y : ℕ) (old new : List ℤ) : Type 0 where
  pub long : length new ≡ length old
  pub entered : (x : ℕ) (e : Dir) → x < g.width → is_swept h e ≡ true
      → number new (x * 8 + dir_number e) ≡ table_entry g (record { x = x; y = y }) e
  pub others : (x : ℕ) (e : Dir) → is_swept h e ≡ false
      → number new (x * 8 + dir_number e) ≡ number old (x * 8 + dir_number e)

-- those along the row that the sweep does not tell are the grid's before
abbrev pub IsAlongRight : GridData → Heading → ℕ → List ℤ → Type 0
IsAlongRight g h y row = (x : ℕ) (e : Dir) → x < g.width → is_along e ≡ true → is_swept h e ≡ false
    → number row (x * 8 + dir_number e) ≡ table_entry g (record { x = x; y = y }) e

-- entries as tables of a grid; those that are not there yet count as 0
abbrev pub as_tables : GridData → List ℤ → TablesData
as_tables g entries = record {
  width = g.width;
  height = g.height;
  corner = g.corner;
  entries = entries;
}

-- so many rows are there after n are swept: the sweep that heads up, which is the first, appends them
abbrev pub rows_there : Heading → ℕ → ℕ → ℕ
rows_there Upwards height n = n
rows_there Downwards height n = height

-- n rows are swept
pub record AreSwept (g : GridData) (h : Heading) (n : ℕ) (entries : List ℤ) : Type 0 where
  pub long : length entries ≡ rows_there h g.height n * g.width * 8
  pub right : AreRight (as_tables g entries) g (swept h g.height n)
