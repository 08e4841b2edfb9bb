-- What the rule says of a cell, by the cells around it.
use Rattle.std.specs.Prelude.{Bool, ◌&&◌, ◌||◌, List, filter}
use Rattle.grid_moves.specs.declared.Corner.{Corner}
use Rattle.grid_moves.specs.declared.Dir.{Dir}
use Rattle.grid_moves.specs.declared.ring.Ring.{Ring}
use Rattle.grid_moves.specs.Move.{all_dirs}
use Rattle.grid_moves.specs.Ring.{is_shut, leads_on}
use Rattle.pruning.specs.declared.Arrival.{Arrival}
use Rattle.pruning.specs.declared.turns.Side.{Side}
use Rattle.pruning.specs.declared.turns.Side.TheVariants.{Right, Left}
use Rattle.pruning.specs.Allowed.{is_kept}
use Rattle.pruning.specs.Marked.{is_forced_on}

-- the direction is allowed after this arrival
abbrev pub is_allowed_on : Corner → Ring → Arrival → Dir → Bool
is_allowed_on corner ring by e = is_kept corner (is_shut ring) by e && leads_on corner ring e

-- the allowed directions in increasing order
abbrev pub allowed_on : Corner → Ring → Arrival → List Dir
allowed_on corner ring by = filter (is_allowed_on corner ring by) all_dirs

-- after a move in d a neighbour on this side is forced
abbrev pub forced_beside : Corner → Ring → Dir → Side → Bool
forced_beside corner ring d s = is_forced_on corner (is_shut ring) (leads_on corner ring) d s

-- and on one side or the other
abbrev pub forced_on : Corner → Ring → Dir → Bool
forced_on corner ring d = forced_beside corner ring d Right || forced_beside corner ring d Left
