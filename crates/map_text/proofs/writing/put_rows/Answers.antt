use Rattle.std.proofs.Common.{arith}
use Rattle.std.proofs.lemmas.Bool.Decides.{nat_tests}
use Rattle.std.proofs.Common.{Result}
use Rattle.std.specs.Prelude.{OnErr}
use Rattle.text_line.proofs.Begun.{begins_on}
use Rattle.map_text.proofs.Written.{row_written}
use Rattle.map_text.proofs.writing.put_rows.Goals as goal

on_err : {T E P : Type 0} (answer : Result T E) → P → OnErr answer P
on_err answer h = grind (arith, nat_tests)

pub returns-in_err-put-2-clause-err : goal.returns-in_err-put-2-clause-err
returns-in_err-put-2-clause-err c =
    on_err c.from_residual-in_err-put-2.result (rw (c.in_err-put-2.ensures.err, c.in_ok-put.ensures.ok)
    (begins_on c.args.out.now.items c.loop-done.out.items c.split_at.result.0.now
    c.loop-done.invariant.kept))

pub loop-done-preserved : goal.loop-done-preserved
loop-done-preserved c =
    rw (c.in_ok-put-2.ensures.ok, c.in_ok-put.ensures.ok, c.split_at.ensures.front, c.split_at.ensures.back)
    (row_written c.args.out.now.items c.args.height c.args.width c.args.cells.now c.loop-done.left.now
    c.loop-done._done c.loop-done.out.items c.loop-done.invariant c.loop-done-test.true)
