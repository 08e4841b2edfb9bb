-- The boxes of all cells of a grid, as they are kept.
use Rattle.std.specs.Prelude.{◌≡◌, ◌*◌, ◌<◌, ℕ, true, List, length, slice_index_or, replicate, Option, None}
use Rattle.grid_moves.specs.declared.Cell.{Cell}
use Rattle.grid_moves.specs.declared.Dir.{Dir}
use Rattle.grid_moves.specs.Grid.{GridData, AreSides, cell_number, is_inside}
use Rattle.goal_boxes.specs.declared.area.Area.{Area}
use Rattle.goal_boxes.specs.declared.around.CellBoxes.{CellBoxes}
use Rattle.goal_boxes.specs.Box.{AreBoxes, box_in}

-- the sides of a grid, and the boxes of each cell, by its number
pub record BoxData : Type 0 where
  pub width : ℕ
  pub height : ℕ
  pub cells : List CellBoxes

-- no box in any direction
abbrev pub no_boxes : CellBoxes
no_boxes = record { areas = replicate 8 None }

-- the boxes that are kept for a cell, and the one in a direction
abbrev pub boxes_at : BoxData → Cell → CellBoxes
boxes_at b c = slice_index_or b.cells (cell_number b.width c) no_boxes

abbrev pub box_at : BoxData → Cell → Dir → Option Area
box_at b c d = box_in (boxes_at b c) d

-- what is kept for each cell of the grid are its boxes: none for a cell that is not free, as no walk leads on
-- from there
pub record HoldsBoxes (g : GridData) (b : BoxData) : Type 0 where
  pub width : b.width ≡ g.width
  pub height : b.height ≡ g.height
  pub boxes : (c : Cell) → is_inside g c ≡ true → AreBoxes g c (boxes_at b c)

-- how they are kept: sides of a map, and an entry for each of its cells
pub record IsKept (width height : ℕ) (cells : List CellBoxes) : Type 0 where
  pub sides : AreSides width height
  pub whole : length cells ≡ height * width

-- these are the boxes of the cells of the grid whose numbers are below n
pub record AreBefore (g : GridData) (cells : List CellBoxes) (n : ℕ) : Type 0 where
  pub count : length cells ≡ n
  pub boxes : (c : Cell) → is_inside g c ≡ true → cell_number g.width c < n
      → AreBoxes g c (slice_index_or cells (cell_number g.width c) no_boxes)
