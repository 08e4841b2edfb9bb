-- Arrivals by numbers, and the lists of allowed directions by places.
-- No public clause cites a definition of this module.
use Rattle.std.specs.Prelude.{◌≡◌, ℕ, ◌/◌, ◌%◌, ◌<◌, List, [], length, get_or}
use Rattle.grid_moves.specs.declared.Corner.{Corner}
use Rattle.grid_moves.specs.declared.Dir.{Dir}
use Rattle.grid_moves.specs.Move.{dir_of_number}
use Rattle.pruning.specs.declared.Arrival.{Arrival}
use Rattle.pruning.specs.Allowed.{come_to}
use Rattle.pruning.specs.Eight.{ring_of}
use Rattle.pruning.specs.Ring.{allowed_on}

-- by a move in the direction of this number, or the start
abbrev pub arrival_of : ℕ → Arrival
arrival_of n = come_to (dir_of_number n)

-- the allowed directions at a place: 256 lists for each arrival, by the eight bits
abbrev pub allowed_at : Corner → ℕ → List Dir
allowed_at corner place = allowed_on corner (ring_of (place % 256)) (arrival_of (place / 256))

-- so many lists are those at their places
pub record AreAllowed (corner : Corner) (count : ℕ) (lists : List (List Dir)) : Type 0 where
  pub as_many : length lists ≡ count
  pub each : (place : ℕ) → place < count → get_or lists place [] ≡ allowed_at corner place
