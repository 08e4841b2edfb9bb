use Rattle.std.proofs.Common.{◌<◌}
use Rattle.plus_tables.specs.Laid.{AreSwept}
use Rattle.plus_tables.specs.Lines.{IsKept}
use Rattle.plus_tables.specs.Sweep.{nth_row}
use Rattle.plus_tables.proofs.build.sweep.Given as goal

-- so many rows are swept
abbrev pub invariant-loop-n : goal.invariant-loop-n
invariant-loop-n g l = record {
  swept : AreSwept (g.T.Terrain.grid l.t) l.heading l.n l.entries.items;
  kept : l.n < (g.T.Terrain.grid l.t).height
      → IsKept (g.T.Terrain.grid l.t) l.heading (nth_row l.heading (g.T.Terrain.grid l.t).height l.n) l.rows;
}
