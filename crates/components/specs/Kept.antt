-- Labels of a grid's cells that are kept while cells are blocked and freed.
use Rattle.std.specs.Prelude.{◌≡◌, Bool, IsTrue}
use Rattle.grid_moves.specs.declared.Corner.{Corner}
use Rattle.grid_moves.specs.Grid.{GridData, IsGrid}
use Rattle.joined_cells.specs.Joined.{Labels, TellsJoined}

-- the labels, the corner rule that they were made for, and whether they are fresh
pub record KeptLabels : Type 0 where
  pub labels : Labels
  pub corner : Corner
  pub fresh : Bool

-- they were made for a grid of these sides under this corner rule
pub record AreFor (g : GridData) (p : KeptLabels) : Type 0 where
  pub width : p.labels.width ≡ g.width
  pub height : p.labels.height ≡ g.height
  pub corner : p.corner ≡ g.corner

-- where they are fresh they are right: two cells have one label exactly
-- where a walk leads from one to the other
pub record Tells (g : GridData) (p : KeptLabels) : Type 0 where
  pub grid : IsGrid g
  pub made_for : AreFor g p
  pub joined : IsTrue p.fresh → TellsJoined g p.labels
