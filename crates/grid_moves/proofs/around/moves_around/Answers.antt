use Rattle.std.proofs.Common.{◌+◌, rules}
use Rattle.grid_moves.proofs.Besides.{around_by_ends}
use Rattle.grid_moves.proofs.around.moves_around.Goals as goal

pub returns-clause-around : goal.returns-clause-around
returns-clause-around g c =
    let pass = c.between-pass in
    around_by_ends (g.T.Terrain.grid c.args.t.now) c.args.c c.requires.free _ c.corner.ensures (record {
      left = c.before-left.result;
      right = c.args.c.x + 1;
      up = c.before-up.result;
      down = c.args.c.y + 1;
      n = c.open-n.result;
      ne = c.is_open_past.result;
      e = c.open-e.result;
      se = c.is_open_past-2.result;
      s = c.open-s.result;
      sw = c.is_open_past-3.result;
      w = c.open-w.result;
      nw = c.is_open_past-4.result;
    })
    c.open-n.ensures c.open-e.ensures c.open-s.ensures c.open-w.ensures
    pass.result.ne pass.result.se pass.result.sw pass.result.nw
    pass.ensures.ne pass.ensures.se pass.ensures.sw pass.ensures.nw
    c.is_open_past.ensures c.is_open_past-2.ensures c.is_open_past-3.ensures c.is_open_past-4.ensures
    (search rules)
