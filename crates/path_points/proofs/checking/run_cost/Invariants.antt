use Rattle.std.proofs.Common.{◌≡◌, ◌+◌, ◌-◌, ◌∷◌, true}
use Rattle.root2_cost.specs.Sums.{add_costs}
use Rattle.grid_moves.specs.Grid.{is_free}
use Rattle.grid_moves.specs.Points.{segment, steps_between}
use Rattle.grid_moves.specs.Walk.{is_walk, cost_of}
use Rattle.path_points.proofs.checking.run_cost.Given as goal

-- the cells that are left decide, and cost what is left
abbrev pub invariant-loop : goal.invariant-loop
invariant-loop g l = record {
  free : is_free (g.T.Terrain.grid l.t) l.at ≡ true;
  left : steps_between l.at l.to ≡ l.steps - l.counter;
  counted : l.cost.a + l.cost.b ≡ l.counter;
  legal : is_walk (g.T.Terrain.grid l.t) (l.at ∷ segment (l.steps - l.counter) l.at l.to) ≡ is_walk
      (g.T.Terrain.grid l.t) (l.initial.at ∷ segment l.steps l.initial.at l.to);
  priced : add_costs l.cost (cost_of (l.at ∷ segment (l.steps - l.counter) l.at l.to)) ≡ cost_of
      (l.initial.at ∷ segment l.steps l.initial.at l.to);
}
