-- The least costs from one cell to the others, and the directions with which least walks begin.
use Rattle.std.specs.Prelude.{◌≡◌, List, ◌∷◌, Option, Some, None}
use Rattle.root2_cost.specs.declared.Cost.{Cost}
use Rattle.grid_moves.specs.declared.Cell.{Cell}
use Rattle.grid_moves.specs.declared.Dir.{Dir}
use Rattle.grid_moves.specs.Grid.{GridData}
use Rattle.grid_moves.specs.Move.{legal_ahead}
use Rattle.grid_moves.specs.Walk.{IsLeastWalk, NoWalk, cost_of}

-- what a least walk from s to t costs
pub record IsLeastCost (g : GridData) (s t : Cell) (cost : Cost) : Type 0 where
  pub cells : List Cell
  pub least : IsLeastWalk g s t cells
  pub priced : cost_of (s ∷ cells) ≡ cost

-- the cost from s to t: what a least walk costs, or nothing where no walk leads there
abbrev pub IsCostTo : GridData → Cell → Cell → Option Cost → Type 0
IsCostTo g s t None = NoWalk g s t
IsCostTo g s t (Some cost) = IsLeastCost g s t cost

-- the cost from s to t, or that there is none, is right from t to s too
abbrev pub CostsTurnRound : Type 0
CostsTurnRound = (g : GridData) (s t : Cell) (o : Option Cost) → IsCostTo g s t o → IsCostTo g t s o

-- Some least walk from s to t begins with a move in direction d. There is none where t is s, since no move is
-- the least walk to s itself, and none where no walk leads from s to t.
pub record Begins (g : GridData) (s t : Cell) (d : Dir) : Type 0 where
  pub next : Cell
  pub ahead : legal_ahead g s d ≡ Some next
  pub cells : List Cell
  pub least : IsLeastWalk g s t (next ∷ cells)
