use Rattle.std.proofs.Common.{◌≢◌, ◌+◌, length}
use Rattle.joined_cells.specs.Flooding.{Keeps, Stay, label_at}
use Rattle.joined_cells.proofs.Reaching.{unlabelled}
use Rattle.joined_cells.proofs.flood.flood.Given as goal

abbrev pub invariant-loop-c : goal.invariant-loop-c
invariant-loop-c g l = record {
  keeps : Keeps (g.T.Terrain.grid l.t) l.label l.waiting.items l.labels;
  stay : Stay (g.T.Terrain.grid l.t) l.fn.labels l.labels;
  labelled : label_at (g.T.Terrain.grid l.t) l.labels l.fn.from ≢ 0;
}

-- a cell that gets a label waits, and one that waited is gone
abbrev pub decreases-loop-c : goal.decreases-loop-c
decreases-loop-c g l = length l.waiting.items + unlabelled l.labels
