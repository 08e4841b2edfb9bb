use Rattle.std.proofs.Common.{◌+◌, ◌-◌, ◌*◌, ◌<◌, length}
use Rattle.root2_cost.specs.Rank.{straight_rank, diagonal_rank}
use Rattle.grid_moves.specs.declared.Cell.{Cell}
use Rattle.cost_waves.specs.Shape.{front_of}
use Rattle.cost_waves.specs.Wave.{IsReady}
use Rattle.cost_waves.proofs.sweep.sweep.Given as goal

abbrev pub invariant-loop-lists : goal.invariant-loop-lists
invariant-loop-lists g l = (0 < l.floor) × ((s : Cell)
    → IsReady (g.T.Terrain.grid l.t) s straight_rank l.initial.lists.wave.items
    (front_of l.initial.ranks l.initial.firsts l.initial.lists.ahead)
    → IsReady (g.T.Terrain.grid l.t) s l.floor l.lists.wave.items (front_of l.ranks l.firsts l.lists.ahead))

abbrev pub decreases-loop-lists : goal.decreases-loop-lists
decreases-loop-lists g l = diagonal_rank * length l.ranks + straight_rank - l.floor
