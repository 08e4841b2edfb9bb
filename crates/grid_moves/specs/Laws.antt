-- What every search on a grid rests on: the octile estimate is consistent, and walks may be turned round.
use Rattle.std.specs.Prelude.{◌≡◌, true, List, ◌∷◌}
use Rattle.root2_cost.specs.Order.{IsAtMost}
use Rattle.root2_cost.specs.Sums.{add_costs}
use Rattle.grid_moves.specs.declared.Cell.{Cell}
use Rattle.grid_moves.specs.Grid.{GridData}
use Rattle.grid_moves.specs.Move.{is_legal, move_cost}
use Rattle.grid_moves.specs.Walk.{IsWalk, cost_of}
use Rattle.grid_moves.specs.Points.{estimate}

-- over a legal move the estimate falls by at most the move's cost
abbrev pub EstimateFalls : Type 0
EstimateFalls = (g : GridData) (u v goal : Cell) → is_legal g u v ≡ true
    → IsAtMost (estimate u goal) (add_costs (move_cost u v) (estimate v goal))

-- the estimate never exceeds the cost of a walk
abbrev pub EstimateNeverExceeds : Type 0
EstimateNeverExceeds = (g : GridData) (s goal : Cell) (cells : List Cell) → IsWalk g s goal cells
    → IsAtMost (estimate s goal) (cost_of (s ∷ cells))

-- the walk back from t to s over cells, at the same cost
pub record HasBack (g : GridData) (s : Cell) (cells : List Cell) (t : Cell) : Type 0 where
  pub back : List Cell
  pub walk : IsWalk g t s back
  pub priced : cost_of (t ∷ back) ≡ cost_of (s ∷ cells)

-- each walk has one
abbrev pub WalksTurnRound : Type 0
WalksTurnRound = (g : GridData) (s t : Cell) (cells : List Cell) → IsWalk g s t cells → HasBack g s cells t
