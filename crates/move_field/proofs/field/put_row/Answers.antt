use Rattle.move_field.proofs.Written.{letters-more, on_err, so-far}
use Rattle.move_field.proofs.field.put_row.Goals as goal

pub loop-x-preserved : goal.loop-x-preserved
loop-x-preserved g c =
    letters-more (g.T.Terrain.grid c.args.t.now) c.args.goal c.args.y c.loop-x.x c.letter.result
    c.args.out.now.items c.loop-x.out.items c.push.new.self.items c.loop-x.invariant
    c.in_ok-push.ensures.items c.letter.ensures

pub returns-in_err-push-clause-err : goal.returns-in_err-push-clause-err
returns-in_err-push-clause-err g c =
    on_err c.from_residual.result
    (so-far _ _ c.loop-x.out.items _ c.loop-x.invariant c.in_err-push.ensures.items)

pub returns-in_err-push-2-clause-err : goal.returns-in_err-push-2-clause-err
returns-in_err-push-2-clause-err g c =
    on_err c.from_residual-in_err-push-2.result
    (so-far _ _ c.loop-x.out.items _ c.loop-x.invariant c.in_err-push-2.ensures.items)
