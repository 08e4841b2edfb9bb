use Rattle.std.proofs.Common.{◌≡◌, []}
use Rattle.joined_cells.specs.Flooding.{AreLabelled, IsSettled}
use Rattle.joined_cells.proofs.flood.flood_row.Given as goal

abbrev pub invariant-loop-x : goal.invariant-loop-x
invariant-loop-x g l = record {
  settled : IsSettled (g.T.Terrain.grid l.t) l.labels;
  labelled : AreLabelled (g.T.Terrain.grid l.t) l.y l.x l.labels;
  none : l.waiting.items ≡ [];
}
