use Rattle.std.proofs.Common.{◌∙◌, sym, Ok}
use Rattle.potential_check.proofs.Walks.{walks_are_answered}
use Rattle.walk_judge.proofs.judging.judgement.Goals as goal

pub compared-requires-clause-right : goal.compared-requires-clause-right
compared-requires-clause-right g c =
    let grid = g.T.Terrain.grid c.args.t.now in
    (walks_are_answered grid c.args.from c.args.to c.in-Walk.points (Ok c.in-Ok.paid)).1
    (sym c.walk_between.ensures ∙ c.in-Ok.is)
