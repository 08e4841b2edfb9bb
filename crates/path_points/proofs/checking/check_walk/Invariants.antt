use Rattle.std.proofs.Common.{◌≡◌, ◌≤◌, true, drop}
use Rattle.root2_cost.specs.Sums.{no_cost}
use Rattle.grid_moves.specs.Grid.{is_free}
use Rattle.path_points.specs.Checked.{answer_from, most_steps, steps_of}
use Rattle.path_points.proofs.checking.check_walk.Given as goal

-- what is left decides
abbrev pub invariant-loop-i : goal.invariant-loop-i
invariant-loop-i g l = record {
  free : is_free (g.T.Terrain.grid l.t) l.last ≡ true;
  few : steps_of l.cost ≤ most_steps;
  decides : answer_from (g.T.Terrain.grid l.t) 0 l.initial.last l.others no_cost ≡ answer_from
      (g.T.Terrain.grid l.t) l.i l.last (drop l.i l.others) l.cost;
}
