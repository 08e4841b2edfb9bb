-- What a dropped turn comes to where no walk is cheaper: the diagonal move goes first.
-- Harabor and Grastien, AAAI 2011; Sturtevant and Rabin, "Canonical Orderings on Grids", IJCAI 2016.
use Rattle.std.specs.Prelude.{◌≡◌, ◌≤◌, ℕ, true, false, List, ◌∷◌, Some}
use Rattle.root2_cost.specs.declared.Cost.{Cost}
use Rattle.root2_cost.specs.Order.{IsAtMost}
use Rattle.root2_cost.specs.Sums.{add_costs}
use Rattle.grid_moves.specs.declared.Cell.{Cell}
use Rattle.grid_moves.specs.declared.Dir.{Dir}
use Rattle.grid_moves.specs.Grid.{GridData}
use Rattle.grid_moves.specs.Least.{NoneBelow}
use Rattle.grid_moves.specs.Move.{legal_ahead, dir_cost}
use Rattle.grid_moves.specs.Walk.{IsWalk, cost_of}
use Rattle.pruning.specs.declared.Arrival.TheVariants.{By}
use Rattle.pruning.specs.Turns.{is_diagonal}
use Rattle.pruning.specs.Allowed.{is_allowed}
use Rattle.pruning.specs.Marked.{run_end}
use Rattle.pruning.specs.Stop.{StopsAfter}
use Rattle.pruning.specs.Chain.{run_cost}
use Rattle.pruning.specs.Canonical.{IsCanonicalWalk}

-- no walk from u to w costs less than this
abbrev pub NoneCheaper : GridData → Cell → Cell → Cost → Type 0
NoneCheaper g u w c = (cells : List Cell) → IsWalk g u w cells → IsAtMost c (cost_of (u ∷ cells))

-- d is straight and e diagonal, and from u to w lead the legal move in e and then k legal moves in d
pub record IsSwapped (g : GridData) (u w : Cell) (d e : Dir) (k : ℕ) : Type 0 where
  pub straight : is_diagonal d ≡ false
  pub diagonal : is_diagonal e ≡ true
  pub by : Cell
  pub first : legal_ahead g u e ≡ Some by
  pub run : run_end g d k by ≡ Some w

-- where k moves in d meet no stop before the last one's end, e is not allowed behind them, and no walk is
-- cheaper than these moves with e behind them, e can go first
abbrev pub DroppedTurnsAreSwapped : Type 0
DroppedTurnsAreSwapped = (g : GridData) (goal u v w : Cell) (d e : Dir) (k : ℕ)
    → 1 ≤ k → NoneBelow (StopsAfter g goal u d) 1 k → run_end g d k u ≡ Some v → legal_ahead g v e ≡ Some w
    → is_allowed g v (By d) e ≡ false → NoneCheaper g u w (add_costs (run_cost d k) (dir_cost e))
    → IsSwapped g u w d e k

-- behind a diagonal move a canonical walk stays canonical where no walk is cheaper
abbrev pub DiagonalsGoFirst : Type 0
DiagonalsGoFirst = (g : GridData) (u v t : Cell) (e : Dir) (cells : List Cell) → legal_ahead g u e ≡ Some v
    → is_diagonal e ≡ true → IsCanonicalWalk g v t cells → NoneCheaper g u t (cost_of (u ∷ v ∷ cells))
    → IsCanonicalWalk g u t (v ∷ cells)
