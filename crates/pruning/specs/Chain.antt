-- Chains of first stops: what a search over jumps goes through.
use Rattle.std.specs.Prelude.{◌≡◌, ℕ, IsTrue, List, [], ◌∷◌, Some, if◌then◌else◌}
use Rattle.root2_cost.specs.declared.Cost.{Cost}
use Rattle.root2_cost.specs.Sums.{add_costs, no_cost}
use Rattle.grid_moves.specs.declared.Cell.{Cell}
use Rattle.grid_moves.specs.declared.Dir.{Dir}
use Rattle.grid_moves.specs.Grid.{GridData}
use Rattle.pruning.specs.declared.Arrival.{Arrival}
use Rattle.pruning.specs.declared.Arrival.TheVariants.{Start, By}
use Rattle.pruning.specs.Turns.{is_diagonal}
use Rattle.pruning.specs.Allowed.{is_allowed}
use Rattle.pruning.specs.Marked.{run_end}
use Rattle.grid_moves.specs.Least.{IsLeast}
use Rattle.pruning.specs.Stop.{StopsAfter}

-- a cell, and how the search came to it
pub record State : Type 0 where
  pub cell : Cell
  pub arrival : Arrival

-- the state that a search from s begins with
abbrev pub start_state : Cell → State
start_state s = record { cell = s; arrival = Start }

-- what k moves in d cost
abbrev pub run_cost : Dir → ℕ → Cost
run_cost d k = if is_diagonal d then record { a = 0; b = k } else record { a = k; b = 0 }

-- from the state s, k moves in the allowed direction d lead to its first stop, the cell of u
pub record IsJump (g : GridData) (goal : Cell) (s u : State) (d : Dir) (k : ℕ) : Type 0 where
  pub allowed : IsTrue (is_allowed g s.cell s.arrival d)
  pub first : IsLeast (StopsAfter g goal s.cell d) 1 k
  pub reached : run_end g d k s.cell ≡ Some u.cell
  pub arrives : u.arrival ≡ By d

-- each state is a jump from the one before, the first from s, and the cost is the sum of their moves
pub data IsChain (g : GridData) (goal : Cell) : State → List State → Cost → Type 0 where
  stays : (s : State) → IsChain g goal s [] no_cost
  jumps : (s u : State) (states : List State) (d : Dir) (k : ℕ) (rest : Cost) → IsJump g goal s u d k
      → IsChain g goal u states rest
      → IsChain g goal s (u ∷ states) (add_costs (run_cost d k) rest)

-- where s followed by these states ends
abbrev pub last_state : State → List State → State
last_state s [] = s
last_state s (u ∷ states) = last_state u states
