-- Whether the cells around a cell that it is linked with are joined without it.
-- No public clause cites this module.
use Rattle.std.specs.Prelude.{◌≡◌, ℕ, zero, suc, ◌+◌, Bool, true, false, ◌&&◌, ◌||◌, nat_le, if◌then◌else◌}
use Rattle.std.specs.Prelude.{refl}
use Rattle.grid_moves.specs.declared.Dir.{Dir}
use Rattle.grid_moves.specs.declared.Dir.TheVariants.{N, NE, E, SE, S, SW, W, NW}
use Rattle.grid_moves.specs.declared.ring.Ring.{Ring}

abbrev pub clockwise : Dir → Dir
clockwise N = NE
clockwise NE = E
clockwise E = SE
clockwise SE = S
clockwise S = SW
clockwise SW = W
clockwise W = NW
clockwise NW = N

-- one comes past a corner between two cells: over its cell, or where eight, straight from one to the other
abbrev pub is_passed : Bool → Bool → Bool → Bool → Bool
is_passed eight corner one other = if eight then corner || one && other else corner && one && other

-- one comes along here on the way around
abbrev pub is_on_way : Bool → Ring → Dir → Bool
is_on_way eight ring N = ring.n
is_on_way eight ring NE = is_passed eight ring.ne ring.n ring.e
is_on_way eight ring E = ring.e
is_on_way eight ring SE = is_passed eight ring.se ring.e ring.s
is_on_way eight ring S = ring.s
is_on_way eight ring SW = is_passed eight ring.sw ring.s ring.w
is_on_way eight ring W = ring.w
is_on_way eight ring NW = is_passed eight ring.nw ring.w ring.n

-- the way ends where one does not come along at the next place
abbrev pub ends : Bool → Bool → ℕ
ends true false = 1
ends true true = 0
ends false next = 0

-- how often it ends, on so many places from this one on
abbrev pub ends_in : (Dir → Bool) → Dir → ℕ → ℕ
ends_in way d zero = 0
ends_in way d (suc n) = ends (way d) (way (clockwise d)) + ends_in way (clockwise d) n

-- at most once
abbrev pub is_whole : Bool → Ring → Bool
is_whole eight ring = nat_le (ends_in (is_on_way eight ring) N 8) 1

-- worked rows: with the cells to the north and to the east free, and the one between them
abbrev corner : Bool → Ring
corner between = record {
  n = true;
  ne = between;
  e = true;
  se = false;
  s = false;
  sw = false;
  w = false;
  nw = false;
}

pub over_the_corner : is_whole false (corner true) ≡ true
over_the_corner = refl

pub past_a_blocked_corner : is_whole false (corner false) ≡ false
past_a_blocked_corner = refl

pub by_the_diagonal : is_whole true (corner false) ≡ true
by_the_diagonal = refl
