-- What a certificate may hold.
use Rattle.std.specs.Prelude.{ℕ, ◌+◌, ◌^◌, Bool, true, nat_lt, nat_le, ◌&&◌, List, [], ◌∷◌, length, map}
use Rattle.std.specs.List.{list_all}
use Rattle.root2_cost.specs.declared.Cost.{Cost}
use Rattle.grid_moves.specs.declared.Cell.{Cell}
use Rattle.grid_moves.specs.Grid.{cell_number}
use Rattle.potential_check.specs.declared.certificate.Claim.{Claim}
use Rattle.potential_check.specs.declared.certificate.Claim.TheVariants.{Least, NoWalk}

-- the sides are 1 to 4096
abbrev pub are_sides : ℕ → ℕ → Bool
are_sides width height = nat_le 1 width && nat_le width 4096 && nat_le 1 height && nat_le height 4096

-- column and row have at most four digits
abbrev pub is_short : Cell → Bool
is_short c = nat_lt c.x 10000 && nat_lt c.y 10000

-- both parts have at most nine digits
abbrev pub is_small : Cost → Bool
is_small c = nat_lt c.a (10 ^ 9) && nat_lt c.b (10 ^ 9)

-- the cell lies inside a map of these sides
abbrev pub lies_inside : ℕ → ℕ → Cell → Bool
lies_inside width height c = nat_lt c.x width && nat_lt c.y height

-- the numbers of the cells ascend strictly, and the first is at least n
abbrev pub ascend_from : ℕ → ℕ → List Cell → Bool
ascend_from width n [] = true
ascend_from width n (c ∷ cells) =
    nat_le n (cell_number width c) && ascend_from width (cell_number width c + 1) cells

-- the cells lie inside, and their numbers ascend strictly
abbrev pub are_listed : ℕ → ℕ → List Cell → Bool
are_listed width height cells = list_all (lies_inside width height) cells && ascend_from width 0 cells

-- the cells that have a value
abbrev pub cells_of : List (Cell × Cost) → List Cell
cells_of values = map (λ entry. entry.0) values

-- there is a point, and fewer than 2^30
abbrev pub are_points : List Cell → Bool
are_points points = nat_le 1 (length points) && nat_lt (length points) (2 ^ 30) && list_all is_short points

-- what a claim may hold, on a map of these sides
abbrev pub is_claim : ℕ → ℕ → Claim → Bool
is_claim width height (Least cost points values) = is_small cost && are_points points
    && list_all (λ entry. is_small entry.1) values && are_listed width height (cells_of values)
is_claim width height (NoWalk cells) = are_listed width height cells

-- what a certificate may hold
abbrev pub is_certificate : ℕ → ℕ → Cell → Cell → Claim → Bool
is_certificate width height start goal claim =
    are_sides width height && is_short start && is_short goal && is_claim width height claim
