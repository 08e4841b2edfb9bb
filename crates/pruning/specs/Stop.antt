-- First stops: the jump points of Harabor and Grastien, AAAI 2011.
use Rattle.std.specs.Prelude.{◌≡◌, ℕ, true, Option, Some}
use Rattle.grid_moves.specs.declared.Cell.{Cell}
use Rattle.grid_moves.specs.declared.Dir.{Dir}
use Rattle.grid_moves.specs.Grid.{GridData}
use Rattle.pruning.specs.declared.turns.Side.{Side}
use Rattle.pruning.specs.Turns.{turn, is_diagonal}
use Rattle.pruning.specs.Marked.{run_end, HoldsOnRun, IsMarked}
use Rattle.grid_moves.specs.Least.{FindsLeast}

-- a jump in d stops at this cell: it is the goal, or marked for d, or d is diagonal and the goal lies on
-- the legal run from the cell in a component
pub data IsStop (g : GridData) (goal : Cell) (d : Dir) (v : Cell) : Type 0 where
  at_goal : v ≡ goal → IsStop g goal d v
  marked : IsMarked g v d → IsStop g goal d v
  sees_goal : is_diagonal d ≡ true → (s : Side) → HoldsOnRun g (turn s d) v (λ u. u ≡ goal)
      → IsStop g goal d v

-- the legal run from x in d has k moves, and a jump stops after these
pub record StopsAfter (g : GridData) (goal x : Cell) (d : Dir) (k : ℕ) : Type 0 where
  pub cell : Cell
  pub reached : run_end g d k x ≡ Some cell
  pub stops : IsStop g goal d cell

-- the answer is the number of moves from x in d to the first stop, or none where there is no stop
abbrev pub IsFirstStop : GridData → Cell → Cell → Dir → Option ℕ → Type 0
IsFirstStop g goal x d moves = FindsLeast (StopsAfter g goal x d) 1 moves

-- the legal run from x in d has k moves, and leads to a cell that is marked for d
pub record MarkedAfter (g : GridData) (x : Cell) (d : Dir) (k : ℕ) : Type 0 where
  pub cell : Cell
  pub reached : run_end g d k x ≡ Some cell
  pub marks : IsMarked g cell d

-- the answer is the number of moves from x in d to the first cell that is marked for d, or none
abbrev pub IsFirstMark : GridData → Cell → Dir → Option ℕ → Type 0
IsFirstMark g x d moves = FindsLeast (MarkedAfter g x d) 1 moves
