use Rattle.std.proofs.Common.{◌≡◌, ◌+◌, ◌*◌}
use Rattle.goal_boxes.specs.Stored.{AreBefore}
use Rattle.goal_boxes.proofs.boxes.add_row.Given as goal

abbrev pub invariant-loop-x : goal.invariant-loop-x
invariant-loop-x g l = record {
  width : l.waves.width ≡ (g.T.Terrain.grid l.t).width;
  height : l.waves.height ≡ (g.T.Terrain.grid l.t).height;
  before : AreBefore (g.T.Terrain.grid l.t) l.cells.items (l.y * (g.T.Terrain.grid l.t).width + l.x);
}
