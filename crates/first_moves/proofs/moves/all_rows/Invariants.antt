use Rattle.std.proofs.Common.{◌≡◌, ◌+◌, ◌*◌, length}
use Rattle.first_moves.specs.Kept.{AreRows}
use Rattle.first_moves.proofs.moves.all_rows.Given as goal

-- all rows of the cells before are there
abbrev pub invariant-loop-y : goal.invariant-loop-y
invariant-loop-y g l = record {
  wide : l.waves.width ≡ (g.T.Terrain.grid l.t).width;
  high : l.waves.height ≡ (g.T.Terrain.grid l.t).height;
  count : length l.rows.items ≡ l.y * (g.T.Terrain.grid l.t).width;
  rows : AreRows (g.T.Terrain.grid l.t) l.rows.items;
}

abbrev pub invariant-loop-x : goal.invariant-loop-x
invariant-loop-x g l = record {
  wide : l.waves.width ≡ (g.T.Terrain.grid l.t).width;
  high : l.waves.height ≡ (g.T.Terrain.grid l.t).height;
  count : length l.rows.items ≡ l.y * (g.T.Terrain.grid l.t).width + l.x;
  rows : AreRows (g.T.Terrain.grid l.t) l.rows.items;
}
