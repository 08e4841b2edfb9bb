-- The cells around a cell, by the direction to them, and the moves that they tell of.
use Rattle.std.specs.Prelude.{◌≡◌, Bool, true, false, not, ◌&&◌, refl}
use Rattle.grid_moves.specs.declared.Corner.{Corner}
use Rattle.grid_moves.specs.declared.Corner.TheVariants.{Never, One, Both}
use Rattle.grid_moves.specs.declared.Dir.{Dir}
use Rattle.grid_moves.specs.declared.Dir.TheVariants.{N, NE, E, SE, S, SW, W, NW}
use Rattle.grid_moves.specs.declared.ring.Ring.{Ring}
use Rattle.grid_moves.specs.Move.{is_passable}

-- what a function says of each direction
abbrev pub ring_by : (Dir → Bool) → Ring
ring_by free = record {
  n = free N;
  ne = free NE;
  e = free E;
  se = free SE;
  s = free S;
  sw = free SW;
  w = free W;
  nw = free NW;
}

-- the cell in this direction is free
abbrev pub is_free_on : Ring → Dir → Bool
is_free_on ring N = ring.n
is_free_on ring NE = ring.ne
is_free_on ring E = ring.e
is_free_on ring SE = ring.se
is_free_on ring S = ring.s
is_free_on ring SW = ring.sw
is_free_on ring W = ring.w
is_free_on ring NW = ring.nw

-- and is not
abbrev pub is_shut : Ring → Dir → Bool
is_shut ring d = not (is_free_on ring d)

-- the move in this direction is legal, from a free cell
abbrev pub leads_on : Corner → Ring → Dir → Bool
leads_on rule ring N = ring.n
leads_on rule ring NE = ring.ne && is_passable rule ring.e ring.n
leads_on rule ring E = ring.e
leads_on rule ring SE = ring.se && is_passable rule ring.e ring.s
leads_on rule ring S = ring.s
leads_on rule ring SW = ring.sw && is_passable rule ring.w ring.s
leads_on rule ring W = ring.w
leads_on rule ring NW = ring.nw && is_passable rule ring.w ring.n

-- where the cells to the north-east and to the east are free alone, the diagonal between them is legal where
-- one blocked cell may be passed
abbrev two_free : Ring
two_free = record { n = false; ne = true; e = true; se = false; s = false; sw = false; w = false; nw = false }

pub no_corner_is_cut : leads_on Never two_free NE ≡ false
no_corner_is_cut = refl

pub one_may_be : leads_on One two_free NE ≡ true
one_may_be = refl

-- where the cell to the north-east alone is free, the diagonal to it is legal where two blocked cells may be
-- passed between
abbrev one_free : Ring
one_free = record {
  n = false;
  ne = true;
  e = false;
  se = false;
  s = false;
  sw = false;
  w = false;
  nw = false;
}

pub one_blocks_both : leads_on One one_free NE ≡ false
one_blocks_both = refl

pub two_may_be : leads_on Both one_free NE ≡ true
two_may_be = refl
