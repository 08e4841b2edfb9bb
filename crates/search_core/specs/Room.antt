-- What the memory of a search over jumps has to be.
use Rattle.std.specs.Prelude.{◌*◌, ◌≤◌}
use Rattle.grid_moves.specs.Grid.{GridData}
use Rattle.best_first.specs.Space.{SpaceData}

-- the space has a place for each cell of the grid at least
pub record HasPlaces (g : GridData) (space : SpaceData) : Type 0 where
  pub enough : g.height * g.width ≤ space.places
