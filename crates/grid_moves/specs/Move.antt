-- Legal moves: eight directions, and a corner rule.
-- No corner is cut: Harabor and Grastien, SoCS 2012. One blocked cell may be passed: their AAAI 2011. Two may
-- be: Godot's grid unless set otherwise.
use Rattle.std.specs.Prelude.{◌≡◌, ℕ, zero, suc, ◌+◌, ◌-◌, Option, Some, None, Bool, true, false, nat_le}
use Rattle.std.specs.Prelude.{nat_eq, not, ◌&&◌, ◌||◌, refl, List, [], ◌∷◌, if◌then◌else◌, option_and_then}
use Rattle.std.specs.Prelude.{unwrap_or, codes, slice_get}
use Rattle.root2_cost.specs.declared.Cost.{Cost}
use Rattle.grid_moves.specs.declared.Cell.{Cell}
use Rattle.grid_moves.specs.declared.Dir.{Dir}
use Rattle.grid_moves.specs.declared.Dir.TheVariants.{N, NE, E, SE, S, SW, W, NW}
use Rattle.grid_moves.specs.declared.Corner.{Corner}
use Rattle.grid_moves.specs.declared.Corner.TheVariants.{Never, One, Both}
use Rattle.grid_moves.specs.Grid.{GridData, grid_of, is_free}
use Rattle.grid_moves.specs.Examples.{pillar}

-- the numbers differ by at most one
abbrev pub are_near : ℕ → ℕ → Bool
are_near m n = nat_le m (n + 1) && nat_le n (m + 1)

-- the cells are one cell
abbrev pub is_same : Cell → Cell → Bool
is_same u v = nat_eq u.x v.x && nat_eq u.y v.y

-- the cells differ, by at most one column and one row
abbrev pub are_neighbours : Cell → Cell → Bool
are_neighbours u v = not (is_same u v) && are_near u.x v.x && are_near u.y v.y

-- the cell in the column of u and the row of v
abbrev pub corner_of : Cell → Cell → Cell
corner_of u v = record { x = u.x; y = v.y }

-- of the two cells beside a diagonal move, given whether each is free: both have to be free where no corner
-- may be cut, at least one where one blocked cell may be passed, and none where two may
abbrev pub is_passable : Corner → Bool → Bool → Bool
is_passable Never one other = one && other
is_passable One one other = one || other
is_passable Both one other = true

-- a corner may be cut: a diagonal move may pass one blocked cell
abbrev pub may_cut : Corner → Bool
may_cut rule = is_passable rule true false

-- a diagonal move may pass between two blocked cells
abbrev pub may_slip : Corner → Bool
may_slip rule = is_passable rule false false

-- the move is legal: from a free cell to a free neighbour, and the corner rule lets it pass between the other
-- two cells of the box that they span. For a straight move these are its two ends.
abbrev pub is_legal : GridData → Cell → Cell → Bool
is_legal g u v = are_neighbours u v && is_free g u && is_free g v
    && is_passable g.corner (is_free g (corner_of u v)) (is_free g (corner_of v u))

-- a straight move costs 1, a diagonal one √2
abbrev pub move_cost : Cell → Cell → Cost
move_cost u v = if nat_eq u.x v.x || nat_eq u.y v.y then record { a = 1; b = 0 } else record { a = 0; b = 1 }

-- the directions in increasing order, clockwise from north
abbrev pub all_dirs : List Dir
all_dirs = N ∷ NE ∷ E ∷ SE ∷ S ∷ SW ∷ W ∷ NW ∷ []

-- the place in this order, from 0
abbrev pub dir_number : Dir → ℕ
dir_number N = 0
dir_number NE = 1
dir_number E = 2
dir_number SE = 3
dir_number S = 4
dir_number SW = 5
dir_number W = 6
dir_number NW = 7

-- the direction of a number, if it has one
abbrev pub dir_of_number : ℕ → Option Dir
dir_of_number n = slice_get all_dirs n

-- the directions are one
abbrev pub is_dir : Dir → Dir → Bool
is_dir d e = nat_eq (dir_number d) (dir_number e)

-- the direction leads across columns and rows
abbrev pub is_diagonal : Dir → Bool
is_diagonal N = false
is_diagonal NE = true
is_diagonal E = false
is_diagonal SE = true
is_diagonal S = false
is_diagonal SW = true
is_diagonal W = false
is_diagonal NW = true

-- what a move in this direction costs
abbrev pub dir_cost : Dir → Cost
dir_cost d = if is_diagonal d then record { a = 0; b = 1 } else record { a = 1; b = 0 }

-- the direction back
abbrev pub opposite : Dir → Dir
opposite N = S
opposite NE = SW
opposite E = W
opposite SE = NW
opposite S = N
opposite SW = NE
opposite W = E
opposite NW = SE

-- one less, if there is one
abbrev pub before : ℕ → Option ℕ
before zero = None
before (suc n) = Some n

-- the column that lies ahead, if there is one
abbrev pub column_ahead : Dir → ℕ → Option ℕ
column_ahead N x = Some x
column_ahead NE x = Some (x + 1)
column_ahead E x = Some (x + 1)
column_ahead SE x = Some (x + 1)
column_ahead S x = Some x
column_ahead SW x = before x
column_ahead W x = before x
column_ahead NW x = before x

-- the row that lies ahead, if there is one; rows count downwards
abbrev pub row_ahead : Dir → ℕ → Option ℕ
row_ahead N y = before y
row_ahead NE y = before y
row_ahead E y = Some y
row_ahead SE y = Some (y + 1)
row_ahead S y = Some (y + 1)
row_ahead SW y = Some (y + 1)
row_ahead W y = Some y
row_ahead NW y = before y

-- the cell that lies ahead, if there is one
abbrev pub ahead : Dir → Cell → Option Cell
ahead d c = option_and_then (λ x. option_and_then (λ y. Some (record { x = x; y = y })) (row_ahead d c.y))
    (column_ahead d c.x)

-- the same by column and row, with no case for the border: before 0 stands 65535, which no map has
abbrev pub beyond : Dir → Cell → Cell
beyond d c = record { x = unwrap_or (column_ahead d c.x) 65535; y = unwrap_or (row_ahead d c.y) 65535 }

-- the column and the row after so many moves
abbrev pub column_after : Dir → ℕ → ℕ → ℕ
column_after N k x = x
column_after NE k x = x + k
column_after E k x = x + k
column_after SE k x = x + k
column_after S k x = x
column_after SW k x = x - k
column_after W k x = x - k
column_after NW k x = x - k

abbrev pub row_after : Dir → ℕ → ℕ → ℕ
row_after N k y = y - k
row_after NE k y = y - k
row_after E k y = y
row_after SE k y = y + k
row_after S k y = y + k
row_after SW k y = y + k
row_after W k y = y
row_after NW k y = y - k

-- the cell after so many moves, where they do not lead off the map's upper or left side
abbrev pub cell_after : Dir → ℕ → Cell → Cell
cell_after d k c = record { x = column_after d k c.x; y = row_after d k c.y }

-- the cell is free, if there is one
abbrev pub is_free_cell : GridData → Option Cell → Bool
is_free_cell g None = false
is_free_cell g (Some v) = is_free g v

-- the cell ahead is free; what lies outside the map is blocked
abbrev pub is_open : GridData → Cell → Dir → Bool
is_open g c d = is_free_cell g (ahead d c)

-- the cell ahead, where the move to it is legal
abbrev pub legal_ahead : GridData → Cell → Dir → Option Cell
legal_ahead g c d = option_and_then (λ v. if is_legal g c v then Some v else None) (ahead d c)

-- eight directions have numbers
pub last_dir : dir_of_number 7 ≡ Some NW
last_dir = refl

pub no_dir : dir_of_number 8 ≡ None
no_dir = refl

-- a straight move along the pillar is legal under each rule
pub along_the_pillar : is_legal (pillar Never) (record { x = 0; y = 0 }) (record { x = 1; y = 0 }) ≡ true
along_the_pillar = refl

pub along_the_pillar-one : is_legal (pillar One) (record { x = 0; y = 0 }) (record { x = 1; y = 0 }) ≡ true
along_the_pillar-one = refl

pub along_the_pillar-both : is_legal (pillar Both) (record { x = 0; y = 0 }) (record { x = 1; y = 0 }) ≡ true
along_the_pillar-both = refl

-- a diagonal move past its corner is legal where one blocked cell may be passed
pub past_the_pillar : is_legal (pillar Never) (record { x = 1; y = 0 }) (record { x = 2; y = 1 }) ≡ false
past_the_pillar = refl

pub past_the_pillar-one : is_legal (pillar One) (record { x = 1; y = 0 }) (record { x = 2; y = 1 }) ≡ true
past_the_pillar-one = refl

pub past_the_pillar-both : is_legal (pillar Both) (record { x = 1; y = 0 }) (record { x = 2; y = 1 }) ≡ true
past_the_pillar-both = refl

-- on `.@/@.` the move leads between two blocked cells, which only the rule `both` lets pass
pub corner_touch : is_legal (grid_of 2 2 (codes ".@@.") Never) (record { x = 0; y = 0 })
    (record { x = 1; y = 1 }) ≡ false
corner_touch = refl

pub corner_touch-one : is_legal (grid_of 2 2 (codes ".@@.") One) (record { x = 0; y = 0 })
    (record { x = 1; y = 1 }) ≡ false
corner_touch-one = refl

pub corner_touch-both : is_legal (grid_of 2 2 (codes ".@@.") Both) (record { x = 0; y = 0 })
    (record { x = 1; y = 1 }) ≡ true
corner_touch-both = refl

-- on the open map `../..` the same move is legal
pub open_diagonal : legal_ahead (grid_of 2 2 (codes "....") Never) (record { x = 0; y = 0 }) SE
    ≡ Some (record { x = 1; y = 1 })
open_diagonal = refl

-- before the first column and row lies what is on no map
pub beyond_the_corner : beyond NW (record { x = 0; y = 0 }) ≡ record { x = 65535; y = 65535 }
beyond_the_corner = refl
