use Rattle.grid_moves.specs.declared.Cell.{Cell}
use Rattle.cost_waves.specs.Shape.{front_of}
use Rattle.cost_waves.specs.Wave.{IsReady, IsMidway}
use Rattle.cost_waves.proofs.sweep.wave.Given as goal

abbrev pub invariant-loop-c : goal.invariant-loop-c
invariant-loop-c g l = (s : Cell)
    → IsReady (g.T.Terrain.grid l.t) s l.floor l.now
    (front_of l.initial.ranks l.initial.firsts l.initial.ahead)
    → IsMidway (g.T.Terrain.grid l.t) s l.floor l.now l.c-index (front_of l.ranks l.firsts l.ahead)
