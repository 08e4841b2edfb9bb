use Rattle.std.proofs.Common.{◌*◌, ◌-◌, ◌+◌, ◌≤◌, length}
use Rattle.plain_search.specs.Room.{IsReady}
use Rattle.goal_boxes.specs.Progress.{HasTaken}
use Rattle.goal_boxes.proofs.boxed.run.Given as goal

-- each taken state but the last has asked for its boxes
abbrev pub invariant-taking : goal.invariant-taking
invariant-taking g l = record {
  taken : HasTaken (g.T.Terrain.grid l.t) g.K.Meant.boxes l.ends.from l.ends.to l.at l.space.table l.taken;
  ready : IsReady (g.T.Terrain.grid l.t) l.space;
  stands : g.B.BoxSource.StandsFor l.source (g.T.Terrain.grid l.t);
  passes : l.passes + 1 ≤ l.fn.passes + length l.taken;
}

abbrev pub decreases-taking : goal.decreases-taking
decreases-taking g l = (g.T.Terrain.grid l.t).height * (g.T.Terrain.grid l.t).width * 9 - length l.taken
