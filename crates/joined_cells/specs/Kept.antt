-- How labels are kept. No public clause cites this module.
use Rattle.std.specs.Prelude.{◌≡◌, ℕ, ◌*◌, List, length}
use Rattle.grid_moves.specs.Grid.{AreSides}

-- sides of a map, and a label for each of its cells
pub record IsKept (width height : ℕ) (labels : List ℕ) : Type 0 where
  pub sides : AreSides width height
  pub whole : length labels ≡ height * width
