-- How waves are kept. No public clause cites this module.
use Rattle.std.specs.Prelude.{◌≡◌, ℕ, ◌*◌, List, length}
use Rattle.grid_moves.specs.Grid.{AreSides}

-- sides of a map, and an entry of each kind for each of its cells
pub record IsKept (width height : ℕ) (ranks firsts : List ℕ) : Type 0 where
  pub sides : AreSides width height
  pub ranked : length ranks ≡ height * width
  pub bytes : length firsts ≡ height * width
