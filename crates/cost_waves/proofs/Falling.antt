-- A move begins a least walk where the cost to the goal falls by what the move costs.
use Rattle.std.proofs.Common.{◌≡◌, refl, subst, List, ◌∷◌}
use Rattle.std.specs.Prelude.{Some}
use Rattle.root2_cost.specs.Order.{IsAtMost}
use Rattle.root2_cost.proofs.AtMost.{IsAtMost-trans}
use Rattle.root2_cost.proofs.Sums.{IsAtMost-add_left}
use Rattle.grid_moves.specs.declared.Cell.{Cell}
use Rattle.grid_moves.specs.declared.Dir.{Dir}
use Rattle.grid_moves.specs.Grid.{GridData}
use Rattle.grid_moves.specs.Move.{legal_ahead, move_cost}
use Rattle.grid_moves.specs.Walk.{IsLeastWalk, IsWalk, cost_of}
use Rattle.grid_moves.proofs.Ahead.{legal_ahead-is}
use Rattle.grid_moves.proofs.Short.{least_rest}
use Rattle.cost_waves.specs.Begin.{Begins}

-- a least walk from u to t over v
pub record GoesOver (g : GridData) (u v t : Cell) : Type 0 where
  pub cells : List Cell
  pub least : IsLeastWalk g u t (v ∷ cells)

-- where a move begins one, it leads to its next cell
pub goes_over : (g : GridData) (u v t : Cell) (d : Dir) → legal_ahead g u d ≡ Some v → Begins g u t d
    → GoesOver g u v t
goes_over g u v t d e b =
    let ahead = b.ahead in
    let same : b.next ≡ v = cc in
    record { cells = b.cells; least = subst (λ (c : Cell). IsLeastWalk g u t (c ∷ b.cells)) same b.least }

-- a walk that goes on from the move's end is least, where it costs no more than a least one
pub least_by_move : (g : GridData) (u v t : Cell) (d : Dir) (cells rest : List Cell)
    → legal_ahead g u d ≡ Some v
    → IsLeastWalk g u t cells → IsWalk g v t rest → IsAtMost (cost_of (u ∷ v ∷ rest)) (cost_of (u ∷ cells))
    → IsLeastWalk g u t (v ∷ rest)
least_by_move g u v t d cells rest e l w most = record {
  walk = record { legal = rw (legal_ahead-is g u v d e, w.legal) refl; ends = w.ends };
  least = λ others o. IsAtMost-trans (cost_of (u ∷ v ∷ rest)) (cost_of (u ∷ cells))
      (cost_of (u ∷ others)) most
      (l.least others o);
}

-- where the move begins a least walk, any least walk from its end goes on with it
pub least_on : (g : GridData) (u v t : Cell) (d : Dir) (rest : List Cell) → legal_ahead g u d ≡ Some v
    → Begins g u t d → IsLeastWalk g v t rest → IsLeastWalk g u t (v ∷ rest)
least_on g u v t d rest e b m =
    let o = goes_over g u v t d e b in
    least_by_move g u v t d (v ∷ o.cells) rest e o.least m.walk
    (IsAtMost-add_left (move_cost u v) (cost_of (v ∷ rest)) (cost_of (v ∷ o.cells))
    (m.least o.cells (least_rest g u t v o.cells o.least).walk))
