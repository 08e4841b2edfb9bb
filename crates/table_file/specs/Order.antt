-- The order of the entries in a table file.
use Rattle.std.specs.Prelude.{ℕ, zero, suc, ◌+◌, ◌*◌, List, [], ◌∷◌, ◌++◌, map, flat_map}
use Rattle.grid_moves.specs.declared.Cell.{Cell}
use Rattle.grid_moves.specs.declared.Dir.{Dir}
use Rattle.grid_moves.specs.declared.Ground.{Ground}
use Rattle.grid_moves.specs.declared.Ground.TheVariants.{Land, Water}
use Rattle.grid_moves.specs.Grid.{cell_numbered}
use Rattle.grid_moves.specs.Move.{all_dirs}

-- what an entry is for: one of a map's two grids, a cell and a direction
pub record Spot : Type 0 where
  pub layer : Ground
  pub cell : Cell
  pub dir : Dir

abbrev pub spot : Ground → Cell → Dir → Spot
spot layer cell dir = record { layer = layer; cell = cell; dir = dir }

-- so many cells by their numbers, from one on
abbrev pub cells_from : ℕ → ℕ → ℕ → List Cell
cells_from width number zero = []
cells_from width number (suc count) = cell_numbered width number ∷ cells_from width (number + 1) count

-- for a cell, each direction in increasing order
abbrev pub spots_at : Ground → Cell → List Spot
spots_at layer c = map (spot layer c) all_dirs

-- for a grid, cell by cell
abbrev pub spots_on : Ground → List Cell → List Spot
spots_on layer cells = flat_map (spots_at layer) cells

-- for a map of these sides, the land grid's before the water grid's
abbrev pub spots_of : ℕ → ℕ → List Spot
spots_of width height = let cells = cells_from width 0 (height * width) in
    spots_on Land cells ++ spots_on Water cells
