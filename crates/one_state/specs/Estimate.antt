-- Estimates of what is left to go, and which of them are consistent.
-- Hart, Nilsson and Raphael, 1968; Pearl, "Heuristics", 1984.
use Rattle.std.specs.Prelude.{◌≡◌, true}
use Rattle.root2_cost.specs.declared.Signed.{Signed}
use Rattle.root2_cost.specs.Signed.{signed_of, add_signed, IsSignedAtMost}
use Rattle.root2_cost.specs.Sums.{no_cost}
use Rattle.grid_moves.specs.declared.Cell.{Cell}
use Rattle.grid_moves.specs.Grid.{GridData}
use Rattle.grid_moves.specs.Move.{is_legal, move_cost}
use Rattle.grid_moves.specs.Points.{estimate}

-- what is thought to be left from each cell: a sum a + b√2 with whole a and b, of either sign
abbrev pub Estimate : Type 0
Estimate = Cell → Signed

-- at the goal it is nothing, and over a legal move from u to v it falls by at most what the move costs
pub record IsConsistent (g : GridData) (goal : Cell) (h : Estimate) : Type 0 where
  pub nothing_at_goal : h goal ≡ signed_of no_cost
  pub falls : (u v : Cell) → is_legal g u v ≡ true
      → IsSignedAtMost (h u) (add_signed (signed_of (move_cost u v)) (h v))

-- nothing, wherever it is: then cells are taken by their costs alone (Dijkstra, 1959)
abbrev pub no_estimate : Estimate
no_estimate c = signed_of no_cost

-- the octile distance to the goal
abbrev pub octile_to : Cell → Estimate
octile_to goal c = signed_of (estimate c goal)
