use Rattle.std.proofs.Common.{◌*◌, ◌-◌, length}
use Rattle.plain_search.specs.Progress.{HasTaken}
use Rattle.plain_search.specs.Room.{IsReady}
use Rattle.plain_search.proofs.search.take_all.Given as goal

abbrev pub invariant-taking : goal.invariant-taking
invariant-taking g l = record {
  taken : HasTaken (g.T.Terrain.grid l.t) l.ends.from l.ends.to l.at l.space.table l.taken;
  ready : IsReady (g.T.Terrain.grid l.t) l.space;
}

abbrev pub decreases-taking : goal.decreases-taking
decreases-taking g l = (g.T.Terrain.grid l.t).height * (g.T.Terrain.grid l.t).width * 9 - length l.taken
