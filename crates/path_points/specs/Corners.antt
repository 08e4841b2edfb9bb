-- The points by which the plain engine prints a walk: its ends and its turns.
use Rattle.std.specs.Prelude.{◌≡◌, ◌+◌, ◌*◌, Bool, nat_eq, ◌&&◌, refl, List, [], ◌∷◌, if◌then◌else◌}
use Rattle.grid_moves.specs.declared.Cell.{Cell}

-- the way from u over v to w goes straight on: v is the middle between them
abbrev pub goes_straight : Cell → Cell → Cell → Bool
goes_straight u v w = nat_eq (u.x + w.x) (2 * v.x) && nat_eq (u.y + w.y) (2 * v.y)

-- of the cells after u, those at which the way turns, and the last one
abbrev pub turns_after : Cell → List Cell → List Cell
turns_after u [] = []
turns_after u (v ∷ []) = v ∷ []
turns_after u (v ∷ w ∷ cells) =
    if goes_straight u v w then turns_after v (w ∷ cells) else v ∷ turns_after v (w ∷ cells)

-- the first cell, the cells at which the way turns, and the last cell
abbrev pub corners : List Cell → List Cell
corners [] = []
corners (u ∷ cells) = u ∷ turns_after u cells

-- two steps down and one to the right
pub down_and_right : corners (record { x = 0; y = 0 } ∷ record { x = 0; y = 1 } ∷ record { x = 0; y = 2 } ∷
    record { x = 1; y = 2 } ∷ []) ≡ record { x = 0; y = 0 } ∷ record { x = 0; y = 2 } ∷ record
    { x = 1; y = 2 } ∷ []
down_and_right = refl
