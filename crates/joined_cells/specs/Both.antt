-- The same on a map of two layers.
use Rattle.std.specs.Prelude.{Bool, ◌||◌, IsTrue, ◌↔◌}
use Rattle.grid_moves.specs.declared.Cell.{Cell}
use Rattle.grid_moves.specs.Layers.{Layers, query_grid}
use Rattle.joined_cells.specs.Joined.{Labels, IsJoined, are_joined}

-- the labels on the land, and those on the water
pub record BothLabels : Type 0 where
  pub land : Labels
  pub water : Labels

-- both cells have one label on one of the layers
abbrev pub are_joined_in : BothLabels → Cell → Cell → Bool
are_joined_in p s t = are_joined p.land s t || are_joined p.water s t

-- a walk leads from s to t on the grid of a query from s
abbrev pub HasWalk : Layers → Cell → Cell → Type 0
HasWalk ls s t = IsJoined (query_grid ls s) s t

-- the labels are right: two cells have one label exactly where a query from one to the other has a walk
pub record TellsBoth (ls : Layers) (p : BothLabels) : Type 0 where
  pub joined : (s t : Cell) → IsTrue (are_joined_in p s t) ↔ HasWalk ls s t
