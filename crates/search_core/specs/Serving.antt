-- For which grids a search answers a query.
use Rattle.std.specs.Prelude.{◌≡◌, true}
use Rattle.grid_moves.specs.declared.Cell.{Cell}
use Rattle.grid_moves.specs.Grid.{GridData, is_free}

-- the query from s to t is served on this grid: the source of jumps stands for it, and both cells are free
pub record IsServed (StandsFor : GridData → Type 0) (s t : Cell) (g : GridData) : Type 0 where
  pub stands : StandsFor g
  pub from : is_free g s ≡ true
  pub to : is_free g t ≡ true

-- it is served on some grid
abbrev pub OnSome : (GridData → Type 0) → Cell → Cell → Type 0
OnSome StandsFor s t = (g : GridData) × IsServed StandsFor s t g

-- on each grid on which it is served this holds
abbrev pub OnEach : (GridData → Type 0) → Cell → Cell → (GridData → Type 0) → Type 0
OnEach StandsFor s t P = (g : GridData) → IsServed StandsFor s t g → P g
