-- What the memory of a plain search has to be.
use Rattle.std.specs.Prelude.{◌≡◌, ℕ, ◌*◌}
use Rattle.grid_moves.specs.Grid.{GridData}
use Rattle.best_first.specs.declared.state.Layout.TheVariants.{ByCell}
use Rattle.best_first.specs.Space.{SpaceData}

-- there is a place for each cell of the grid
abbrev pub HasRoom : GridData → ℕ → Type 0
HasRoom g places = places ≡ g.height * g.width

-- the space has one state for each cell of the grid, and is used on a map of its width
pub record IsReady (g : GridData) (space : SpaceData) : Type 0 where
  pub layout : space.layout ≡ ByCell
  pub places : space.places ≡ g.height * g.width
  pub width : space.width ≡ g.width
