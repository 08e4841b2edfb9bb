-- Tables as contracts see them.
use Rattle.std.specs.Prelude.{◌≡◌, ℕ, ◌+◌, ◌*◌, ℤ, pos, neg_ℤ, ◌≤ℤ◌, IsTrue, Bool, true, ◌&&◌, nat_lt, List}
use Rattle.std.specs.Prelude.{length, slice_index_or, slice_set, Some}
use Rattle.grid_moves.specs.declared.Cell.{Cell}
use Rattle.grid_moves.specs.declared.Corner.{Corner}
use Rattle.grid_moves.specs.declared.Dir.{Dir}
use Rattle.grid_moves.specs.Grid.{GridData, AreSides, IsGrid, is_inside, cell_number}
use Rattle.grid_moves.specs.Move.{dir_number, legal_ahead, is_same, is_dir}
use Rattle.pruning.specs.declared.turns.Side.{Side}
use Rattle.pruning.specs.Turns.{turn, is_diagonal}
use Rattle.plus_tables.specs.Entry.{table_entry}

-- the sides and the corner rule of a grid, and eight numbers for each of its cells: row by row from the upper
-- left, those of one cell in the order of the directions
pub record TablesData : Type 0 where
  pub width : ℕ
  pub height : ℕ
  pub corner : Corner
  pub entries : List ℤ

-- sides of 1 to 4096, and eight entries for each cell
pub record IsWhole (t : TablesData) : Type 0 where
  pub sides : AreSides t.width t.height
  pub whole : length t.entries ≡ t.height * t.width * 8

-- the cell lies on the map
abbrev pub is_on : TablesData → Cell → Bool
is_on t c = nat_lt c.x t.width && nat_lt c.y t.height

-- the place of an entry
abbrev pub entry_place : ℕ → Cell → Dir → ℕ
entry_place width c d = cell_number width c * 8 + dir_number d

-- the entry for a cell and a direction
abbrev pub entry_at : TablesData → Cell → Dir → ℤ
entry_at t c d = slice_index_or t.entries (entry_place t.width c d) (pos 0)

-- the tables with one entry changed
abbrev pub tables_with : TablesData → Cell → Dir → ℤ → TablesData
tables_with t c d entry = record {
  width = t.width;
  height = t.height;
  corner = t.corner;
  entries = slice_set t.entries (entry_place t.width c d) entry;
}

-- the cell and the direction of an entry are those of another
abbrev pub is_place : Cell → Dir → Cell → Dir → Bool
is_place b e c d = is_same b c && is_dir e d

-- numbers as the entries of a map are: no run is longer than two sides together
pub record IsShort (entry : ℤ) : Type 0 where
  pub low : neg_ℤ (pos 8192) ≤ℤ entry
  pub high : entry ≤ℤ pos 8192

-- the tables have the sides and the corner rule of the grid
pub record AreSized (t : TablesData) (g : GridData) : Type 0 where
  pub width : t.width ≡ g.width
  pub height : t.height ≡ g.height
  pub corner : t.corner ≡ g.corner

-- the tables are those of the grid
pub record AreTablesOf (t : TablesData) (g : GridData) : Type 0 where
  pub sized : AreSized t g
  pub whole : IsGrid g
  pub right : (c : Cell) (d : Dir) → IsTrue (is_inside g c) → entry_at t c d ≡ table_entry g c d

-- the entries on which the one for c and d rests, at the next cell, are those of the grid: the one for d, and
-- for a diagonal d those for its components
pub record RestsRight (t : TablesData) (g : GridData) (c : Cell) (d : Dir) : Type 0 where
  pub ahead : (v : Cell) → legal_ahead g c d ≡ Some v → entry_at t v d ≡ table_entry g v d
  pub beside : is_diagonal d ≡ true → (v : Cell) → legal_ahead g c d ≡ Some v → (s : Side)
      → entry_at t v (turn s d) ≡ table_entry g v (turn s d)
