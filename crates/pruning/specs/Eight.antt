-- The cells around a cell as eight bits.
use Rattle.std.specs.Prelude.{◌≡◌, ℕ, refl, [], ◌∷◌}
use Rattle.grid_moves.specs.Bits.{is_set}
use Rattle.grid_moves.specs.declared.Corner.TheVariants.{Never, One}
use Rattle.grid_moves.specs.declared.Dir.TheVariants.{N, NE, E, SE, S, SW, W, NW}
use Rattle.grid_moves.specs.declared.ring.Ring.{Ring}
use Rattle.pruning.specs.declared.Arrival.TheVariants.{Start, By}
use Rattle.pruning.specs.Ring.{allowed_on}

-- The cells around a cell, by eight bits: from the lowest three of the row above, from the west, two of
-- the cell's own row, and three of the row below. A set bit is a free cell.
abbrev pub ring_of : ℕ → Ring
ring_of eight = record {
  n = is_set eight 1;
  ne = is_set eight 2;
  e = is_set eight 4;
  se = is_set eight 7;
  s = is_set eight 6;
  sw = is_set eight 5;
  w = is_set eight 3;
  nw = is_set eight 0;
}

-- in the map's upper left corner, with a blocked cell below: the cells to the east (16) and to the south-east
-- (128) are free
pub in_the_corner : allowed_on Never (ring_of 144) Start ≡ E ∷ []
in_the_corner = refl

pub in_the_corner_too : allowed_on One (ring_of 144) Start ≡ E ∷ SE ∷ []
in_the_corner_too = refl

-- past a blocked cell, the one to the south-west: the way leads down where no corner is cut
pub past_it : allowed_on Never (ring_of 216) (By E) ≡ E ∷ SE ∷ S ∷ []
past_it = refl

-- on the map's lower edge, the one to the west blocked: all three of the row above are free, 1 and 2 and 4
pub below_a_row : allowed_on Never (ring_of 23) Start ≡ N ∷ NE ∷ E ∷ []
below_a_row = refl

pub below_a_row_too : allowed_on One (ring_of 23) Start ≡ N ∷ NE ∷ E ∷ NW ∷ []
below_a_row_too = refl

-- with the one to the west free (8) and the one to the east blocked: after a diagonal move its component to
-- the west is left
pub one_component : allowed_on One (ring_of 15) (By SW) ≡ W ∷ []
one_component = refl
