-- The forms of the lines of a certificate: words parted by one space.
use Rattle.std.specs.Prelude.{◌≡◌, ℕ, ◌==◌, Bool, if◌then◌else◌, List, [], ◌∷◌, codes, Option, Some, None}
use Rattle.std.specs.Prelude.{refl}
use Rattle.std.specs.Option.{option_map, option_and_then}
use Rattle.std.specs.Str.{bytes_eq}
use Rattle.root2_cost.specs.declared.Cost.{Cost}
use Rattle.grid_moves.specs.declared.Cell.{Cell}
use Rattle.text_line.specs.Fields.{is_nothing}
pub use Rattle.cell_lines.specs.Parts.{cell_of}
use Rattle.cell_lines.specs.Parts.{first_two, parts, point_of, points_in, two_numbers}
use Rattle.potential_check.specs.Certificate.{are_sides}

-- a space, which parts words
abbrev pub is_space : ℕ → Bool
is_space byte = byte == 32

-- the words behind the first one, where that is this word
abbrev pub behind : List ℕ → List (List ℕ) → List (List ℕ)
behind word [] = []
behind word (first ∷ words) = if bytes_eq first word then words else []

abbrev pub words_after : List ℕ → List ℕ → List (List ℕ)
words_after word line = behind word (parts 32 line)

-- the cost of these parts
abbrev pub cost_of : (ℕ × ℕ) → Cost
cost_of parts = record { a = parts.0; b = parts.1 }

-- `size W H`: the sides
abbrev pub size_on : List ℕ → Option (ℕ × ℕ)
size_on line = option_and_then (λ sides. if are_sides sides.0 sides.1 then Some sides else None)
    (two_numbers 9 (words_after (codes "size") line))

-- `ends SX SY GX GY`: start and goal
abbrev pub ends_on : List ℕ → Option (Cell × Cell)
ends_on line = option_and_then (λ s. option_map (λ t. (cell_of s.0, cell_of t)) (two_numbers 4 s.1))
    (first_two 4 (words_after (codes "ends") line))

-- `least A B`: the cost
abbrev pub least_on : List ℕ → Option Cost
least_on line = option_map cost_of (two_numbers 9 (words_after (codes "least") line))

-- `points X,Y X,Y ..`: the points, of which there is one
abbrev pub points_on : List ℕ → Option (List Cell)
points_on line = if is_nothing (words_after (codes "points") line) then None
    else points_in (words_after (codes "points") line)

-- `value X Y A B`: a cell and its value
abbrev pub value_on : List ℕ → Option (Cell × Cost)
value_on line = option_and_then (λ c. option_map (λ cost. (cell_of c.0, cost_of cost)) (two_numbers 9 c.1))
    (first_two 4 (words_after (codes "value") line))

-- `in X Y`: a cell
abbrev pub member_on : List ℕ → Option Cell
member_on line = option_map cell_of (two_numbers 4 (words_after (codes "in") line))

-- leading zeros are digits, but there are at most four of a coordinate
pub zeros : value_on (codes "value 0001 2 000000003 4") ≡ Some (
  record { x = 1; y = 2 },
  record {
    a = 3;
    b
        = 4;
  },
)
unfolding point_of
zeros = refl

pub five_digits : value_on (codes "value 00001 2 3 4") ≡ None
unfolding point_of
five_digits = refl

-- words are parted by one space alone
pub two_spaces : value_on (codes "value 1  2 3 4") ≡ None
unfolding point_of
two_spaces = refl

pub space_at_the_end : value_on (codes "value 1 2 3 4 ") ≡ None
unfolding point_of
space_at_the_end = refl

pub two_points : points_on (codes "points 0,0 2,10") ≡ Some (record { x = 0; y = 0 } ∷ record {
  x = 2;
  y =
      10;
} ∷ [])
unfolding point_of
two_points = refl

pub no_points : points_on (codes "points ") ≡ None
unfolding point_of
no_points = refl
