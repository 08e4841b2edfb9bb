-- The ends of open moves have their places.
use Rattle.std.proofs.Common.{◌≡◌, ℕ, ◌*◌, ap, arith, Bool, true}
use Rattle.grid_moves.specs.declared.Cell.{Cell}
use Rattle.grid_moves.specs.declared.Dir.{Dir}
use Rattle.grid_moves.specs.Around.{if_open}
use Rattle.grid_moves.specs.Grid.{GridData, IsGrid, cell_number}
use Rattle.grid_moves.specs.Move.{legal_ahead}
use Rattle.grid_moves.proofs.Besides.{ahead_free}
use Rattle.grid_moves.proofs.Legal.{free_inside}
use Rattle.grid_moves.proofs.Places.{free_below}
use Rattle.cost_waves.specs.Shape.{Fits}

pub fits_ahead : (g : GridData) → IsGrid g → (c v : Cell) (d : Dir) (b : Bool)
    → if_open b v ≡ legal_ahead g c d → (w ranked bytes : ℕ) → w ≡ g.width → ranked ≡ g.height * g.width
    → bytes ≡ g.height * g.width → b ≡ true → Fits w v ranked bytes
fits_ahead g whole c v d b is w ranked bytes wide r s e =
    let free = ahead_free g c v d b is e in
    let i = free_inside g v free in
    let below = free_below g v free in
    let narrow : cell_number w v ≡ cell_number g.width v = ap (λ n. cell_number n v) wide in
    let low = whole.sides.low in
    record {
      column = omega arith;
      row = omega arith;
      rank = omega arith;
      first = omega arith;
    }
