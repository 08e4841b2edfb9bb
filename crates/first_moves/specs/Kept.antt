-- How rows are kept. No public clause cites this module.
use Rattle.std.specs.Prelude.{◌≡◌, ℕ, ◌*◌, ◌<◌, List, [], length, slice_index_or}
use Rattle.grid_moves.specs.declared.Cell.{Cell}
use Rattle.grid_moves.specs.Grid.{AreSides, GridData, cell_number}
use Rattle.first_moves.specs.declared.row.Run.{Run}
use Rattle.first_moves.specs.Row.{IsRow}

-- sides of a map, and a row for each of its cells
pub record IsKept (width height : ℕ) (rows : List (List Run)) : Type 0 where
  pub sides : AreSides width height
  pub whole : length rows ≡ height * width

-- the rows so far are those of the first cells
abbrev pub AreRows : GridData → List (List Run) → Type 0
AreRows g rows = (s : Cell) → s.x < g.width → cell_number g.width s < length rows
    → IsRow g s (slice_index_or rows (cell_number g.width s) [])
