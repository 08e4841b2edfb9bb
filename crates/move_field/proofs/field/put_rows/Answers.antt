use Rattle.std.proofs.Common.{arith}
use Rattle.move_field.proofs.Written.{lines-all, lines-more, on_err, so-far-begun}
use Rattle.move_field.proofs.field.put_rows.Goals as goal

pub loop-y-preserved : goal.loop-y-preserved
loop-y-preserved g c =
    lines-more (g.T.Terrain.grid c.args.t.now) c.args.goal c.loop-y.y c.args.out.now.items c.loop-y.out.items
    c.put_row.new.out.items c.loop-y.invariant c.in_ok-put_row.ensures.ok

pub returns-in_err-put_row-clause-err : goal.returns-in_err-put_row-clause-err
returns-in_err-put_row-clause-err g c =
    on_err c.from_residual.result
    (so-far-begun _ _ c.loop-y.out.items _ c.loop-y.invariant c.in_err-put_row.ensures.err)

pub returns-clause-ok : goal.returns-clause-ok
returns-clause-ok g c =
    lines-all (g.T.Terrain.grid c.args.t.now) c.args.goal c.loop-y.y c.args.out.now.items c.loop-y.out.items
    (omega arith) c.loop-y.invariant
