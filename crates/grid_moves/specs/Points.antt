-- Points stand for a walk: unfolding fills each segment cell by cell.
use Rattle.std.specs.Prelude.{◌≡◌, ℕ, zero, suc, ◌+◌, ◌-◌, Bool, true, nat_lt, nat_eq, ◌&&◌, ◌||◌, refl, List}
use Rattle.std.specs.Prelude.{[], ◌∷◌, ◌++◌, Option, Some, None, option_map, if◌then◌else◌, max}
use Rattle.root2_cost.specs.declared.Cost.{Cost}
use Rattle.root2_cost.specs.Sums.{octile_cost}
use Rattle.grid_moves.specs.declared.Cell.{Cell}

-- how far two numbers are apart
abbrev pub apart : ℕ → ℕ → ℕ
apart m n = (m - n) + (n - m)

-- the octile distance of two cells: the cost of a walk where nothing is in the way
abbrev pub estimate : Cell → Cell → Cost
estimate u v = octile_cost (apart u.x v.x) (apart u.y v.y)

-- the steps of a segment: those of its longer side
abbrev pub steps_between : Cell → Cell → ℕ
steps_between u v = max (apart u.x v.x) (apart u.y v.y)

-- two different cells on one of the eight lines: on a column, a row or a diagonal
abbrev pub are_lined : Cell → Cell → Bool
are_lined u v = nat_lt 0 (steps_between u v) &&
    (nat_eq u.x v.x || nat_eq u.y v.y || nat_eq (apart u.x v.x) (apart u.y v.y))

-- one nearer to the goal
abbrev pub toward : ℕ → ℕ → ℕ
toward n goal = if nat_lt n goal then n + 1 else if nat_lt goal n then n - 1 else n

-- the cell one step from u towards v
abbrev pub step_toward : Cell → Cell → Cell
step_toward u v = record { x = toward u.x v.x; y = toward u.y v.y }

-- the next k cells from u towards v
abbrev pub segment : ℕ → Cell → Cell → List Cell
segment zero u v = []
segment (suc k) u v = let next : Cell = step_toward u v in next ∷ segment k next v

-- the cells after u, through the points
abbrev pub unfolded_from : Cell → List Cell → Option (List Cell)
unfolded_from u [] = Some []
unfolded_from u (v ∷ points) =
    if are_lined u v then option_map (λ cells. segment (steps_between u v) u v ++ cells)
    (unfolded_from v points) else None

-- the first point, and then the cells of each segment
abbrev pub unfolding_of : List Cell → Option (List Cell)
unfolding_of [] = None
unfolding_of (p ∷ points) = option_map (λ cells. p ∷ cells) (unfolded_from p points)

-- there is a first point, and each next one lies on one of the eight lines from the one before
abbrev pub is_lined : List Cell → Bool
is_lined [] = nat_lt 1 0
is_lined (p ∷ []) = true
is_lined (p ∷ q ∷ points) = are_lined p q && is_lined (q ∷ points)

-- two steps on a diagonal and two along a row
pub diagonal_then_row : unfolding_of (record { x = 0; y = 3 } ∷ record { x = 2; y = 1 } ∷ record
    { x = 4; y = 1 } ∷ []) ≡ Some (record { x = 0; y = 3 } ∷ record { x = 1; y = 2 } ∷ record { x = 2; y = 1 }
    ∷ record { x = 3; y = 1 } ∷ record { x = 4; y = 1 } ∷ [])
diagonal_then_row = refl

-- a knight's move lies on none of the eight lines
pub knights_move : unfolding_of (record { x = 0; y = 3 } ∷ record { x = 2; y = 2 } ∷ []) ≡ None
knights_move = refl

-- no point may be given twice in a row
pub point_twice : unfolding_of (record { x = 1; y = 1 } ∷ record { x = 1; y = 1 } ∷ []) ≡ None
point_twice = refl
