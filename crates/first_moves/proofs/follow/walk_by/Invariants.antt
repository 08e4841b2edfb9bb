use Rattle.std.proofs.Common.{◌≡◌, ◌+◌, ◌*◌, ◌-◌, true}
use Rattle.grid_moves.specs.Grid.{is_inside}
use Rattle.first_moves.proofs.Following.{IsUnderWay}
use Rattle.first_moves.proofs.follow.walk_by.Given as goal

-- each move so far was a first move, and counted
abbrev pub invariant-loop-to : goal.invariant-loop-to
invariant-loop-to g l = record {
  way : IsUnderWay (g.T.Terrain.grid l.t) l.fn.from l.to l.before l.at l.points l.cost;
  inside : is_inside (g.T.Terrain.grid l.t) l.at ≡ true;
  counted : l.steps ≡ l.fn.steps + (l.cost.a + l.cost.b);
}

abbrev pub decreases-loop-to : goal.decreases-loop-to
decreases-loop-to g l = (g.T.Terrain.grid l.t).height * (g.T.Terrain.grid l.t).width - (l.cost.a + l.cost.b)
