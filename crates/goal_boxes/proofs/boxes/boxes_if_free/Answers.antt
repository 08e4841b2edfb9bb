use Rattle.std.proofs.Common.{sym, ◌∙◌}
use Rattle.goal_boxes.proofs.Storing.{none_of_blocked}
use Rattle.goal_boxes.proofs.boxes.boxes_if_free.Goals as goal

pub returns-else-free-clause-boxes : goal.returns-else-free-clause-boxes
returns-else-free-clause-boxes g c =
    none_of_blocked (g.T.Terrain.grid c.args.t.now) c.args.c (sym c.free.ensures ∙ c.if-free.false)
