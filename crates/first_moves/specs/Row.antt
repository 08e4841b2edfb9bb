-- The first moves from one cell to all cells.
use Rattle.std.specs.Prelude.{◌≡◌, ℕ, ◌*◌, true, List, [], Option, None, length, map, slice_index_or}
use Rattle.std.specs.List.{range_with_len}
use Rattle.grid_moves.specs.declared.Cell.{Cell}
use Rattle.grid_moves.specs.declared.Dir.{Dir}
use Rattle.grid_moves.specs.Grid.{GridData, cell_number, cell_numbered, is_free, is_inside}
use Rattle.plain_search.specs.One.{IsTheOne}
use Rattle.first_moves.specs.declared.row.Run.{Run}
use Rattle.first_moves.specs.First.{IsFirstMove, first_move}
use Rattle.first_moves.specs.Runs.{runs_of}

-- the row of s: the first moves to all cells of the map by cell number, cut into longest runs of equal
-- members
pub record IsRow (g : GridData) (s : Cell) (runs : List Run) : Type 0 where
  pub members : List (Option Dir)
  pub whole : length members ≡ g.height * g.width
  pub moves : (t : Cell) → is_inside g t ≡ true
      → IsFirstMove g s t (slice_index_or members (cell_number g.width t) None)
  pub cut : runs ≡ runs_of members

-- the first moves from s to all cells of the map, by cell number, and their runs
abbrev pub moves_from : GridData → Cell → List (Option Dir)
moves_from g s = map (λ k. first_move g s (cell_numbered g.width k)) (range_with_len 0 (g.height * g.width))

unfoldable pub row_of : GridData → Cell → List Run
row_of g s = runs_of (moves_from g s)

-- of each free cell this is the row, and nothing else is
abbrev pub RowsAre : (GridData → Cell → List Run) → Type 0
RowsAre row = (g : GridData) (s : Cell) → is_free g s ≡ true → IsTheOne (IsRow g s) (row g s)

-- the sides of a map, and a row for each of its cells, by cell number
pub record MovesData : Type 0 where
  pub width : ℕ
  pub height : ℕ
  pub rows : List (List Run)

-- the row of a cell
abbrev pub row_at : MovesData → Cell → List Run
row_at m c = slice_index_or m.rows (cell_number m.width c) []

-- these are the first moves between all cells of the map
pub record AreMoves (g : GridData) (m : MovesData) : Type 0 where
  pub width : m.width ≡ g.width
  pub height : m.height ≡ g.height
  pub rows : (s : Cell) → is_inside g s ≡ true → IsRow g s (row_at m s)
