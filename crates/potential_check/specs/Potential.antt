-- Potentials: a value for each cell, from which it is seen that no walk is cheaper.
-- They are feasible solutions of the dual linear program of shortest paths.
use Rattle.std.specs.Prelude.{◌≡◌, Bool, true, false, if◌then◌else◌, List, [], ◌∷◌, refl}
use Rattle.std.specs.List.{list_any}
use Rattle.root2_cost.specs.declared.Cost.{Cost}
use Rattle.root2_cost.specs.declared.Signed.{Signed}
use Rattle.root2_cost.specs.Signed.{signed_of, add_signed, cost_difference, is_signed_less}
use Rattle.grid_moves.specs.declared.Cell.{Cell}
use Rattle.grid_moves.specs.Grid.{GridData}
use Rattle.grid_moves.specs.Move.{is_legal, is_same, move_cost}
use Rattle.grid_moves.specs.Points.{estimate}

-- the potential of a certificate of this cost: at a cell that is listed the value, at any other the cost
-- less the octile estimate to the goal
abbrev pub potential_of : Cost → Cell → List (Cell × Cost) → Cell → Signed
potential_of cost goal [] c = cost_difference cost (estimate c goal)
potential_of cost goal (entry ∷ values) c =
    if is_same entry.0 c then signed_of entry.1 else potential_of cost goal values c

-- from u to v the potential rises by more than the move's cost
abbrev pub rises : (Cell → Signed) → Cell → Cell → Bool
rises potential u v = is_signed_less (add_signed (potential u) (signed_of (move_cost u v))) (potential v)

-- the cell is listed
abbrev pub is_listed : List Cell → Cell → Bool
is_listed cells c = list_any (λ d. is_same d c) cells

-- no legal move has the property
abbrev pub NoMove : GridData → (Cell → Cell → Bool) → Type 0
NoMove g fails = (u v : Cell) → is_legal g u v ≡ true → fails u v ≡ false

-- the potential is feasible: no legal move raises it by more than its cost
abbrev pub IsFeasible : GridData → (Cell → Signed) → Type 0
IsFeasible g potential = NoMove g (rises potential)

-- with least cost 4, the unlisted cell (2,0) has the value 4 - 2 for the goal (2,2)
pub unlisted_value : potential_of (record { a = 4; b = 0 }) (record { x = 2; y = 2 }) [] (record {
  x = 2;
  y
      = 0;
})
    ≡ signed_of (record { a = 2; b = 0 })
unlisted_value = refl

-- and (0,0) the value 4 - 2√2, unless it is listed
pub far_value : potential_of (record { a = 4; b = 0 }) (record { x = 2; y = 2 }) [] (record { x = 0; y = 0 })
    ≡ cost_difference (record { a = 4; b = 0 }) (record { a = 0; b = 2 })
far_value = refl

pub listed_value : potential_of (record { a = 4; b = 0 }) (record { x = 2; y = 2 })
    ((record { x = 0; y = 0 }, record { a = 0; b = 0 }) ∷ []) (record { x = 0; y = 0 })
    ≡ signed_of (record { a = 0; b = 0 })
listed_value = refl
