-- The two local facts that the laws of pruning rest on: each looks at the cells around one move alone.
use Rattle.std.specs.Prelude.{◌≡◌, ◌<◌, ◌+◌, ℕ, true, false, IsTrue, List, [], ◌∷◌, length, Some}
use Rattle.root2_cost.specs.Order.{IsAtMost}
use Rattle.grid_moves.specs.declared.Cell.{Cell}
use Rattle.grid_moves.specs.declared.Dir.{Dir}
use Rattle.grid_moves.specs.Grid.{GridData}
use Rattle.grid_moves.specs.Move.{legal_ahead}
use Rattle.grid_moves.specs.Walk.{IsWalk, cost_of}
use Rattle.pruning.specs.declared.Arrival.TheVariants.{By}
use Rattle.pruning.specs.declared.turns.Side.{Side}
use Rattle.pruning.specs.Turns.{turn, is_diagonal}
use Rattle.pruning.specs.Allowed.{is_allowed}
use Rattle.pruning.specs.Marked.{IsMarked}

-- the places of the diagonal moves of a walk, counted from 1, and their sum
abbrev pub diagonal_places : List Cell → ℕ
diagonal_places [] = 0
diagonal_places (c ∷ cells) = (cost_of (c ∷ cells)).b + diagonal_places cells

-- fewer moves, or as many with fewer diagonal ones, or as many of these too and they stand earlier
pub data IsSmaller (es ds : List Cell) : Type 0 where
  shorter : length es < length ds → IsSmaller es ds
  straighter : length es ≡ length ds → (cost_of es).b < (cost_of ds).b → IsSmaller es ds
  earlier : length es ≡ length ds → (cost_of es).b ≡ (cost_of ds).b
      → diagonal_places es < diagonal_places ds → IsSmaller es ds

-- a walk from u to t, of no greater cost than u followed by these cells, and smaller
pub record HasBetter (g : GridData) (u t : Cell) (cells : List Cell) : Type 0 where
  pub instead : List Cell
  pub walk : IsWalk g u t instead
  pub no_more : IsAtMost (cost_of (u ∷ instead)) (cost_of (u ∷ cells))
  pub smaller : IsSmaller (u ∷ instead) (u ∷ cells)

-- each turn that is not allowed has a replacement: two legal moves, from u to v in d and from v to w in e,
-- where e is not allowed after d
abbrev pub TurnsAreReplaced : Type 0
TurnsAreReplaced = (g : GridData) (u v w : Cell) (d e : Dir) → legal_ahead g u d ≡ Some v
    → legal_ahead g v e ≡ Some w
    → is_allowed g v (By d) e ≡ false → HasBetter g u w (v ∷ w ∷ [])

-- after d, the direction is d itself, or d is diagonal and it is a component, or the cell is marked for d
pub data IsExplained (g : GridData) (x : Cell) (d : Dir) : Dir → Type 0 where
  same : IsExplained g x d d
  component : is_diagonal d ≡ true → (s : Side) → IsExplained g x d (turn s d)
  turns : IsMarked g x d → (e : Dir) → IsExplained g x d e

-- where an allowed direction is neither the arrival's own nor, after a diagonal, one of its components, the
-- cell is marked for the arrival
abbrev pub TurnsAreMarked : Type 0
TurnsAreMarked = (g : GridData) (x : Cell) (d e : Dir) → IsTrue (is_allowed g x (By d) e)
    → IsExplained g x d e
