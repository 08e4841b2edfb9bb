use Rattle.std.proofs.Common.{◌≡◌, []}
use Rattle.joined_cells.specs.Flooding.{AreLabelled, IsSettled}
use Rattle.joined_cells.proofs.flood.flood_all.Given as goal

abbrev pub invariant-loop-y : goal.invariant-loop-y
invariant-loop-y g l = record {
  settled : IsSettled (g.T.Terrain.grid l.t) l.labels;
  labelled : AreLabelled (g.T.Terrain.grid l.t) l.y 0 l.labels;
  none : l.waiting.items ≡ [];
}
