use Rattle.grid_moves.specs.declared.Cell.{Cell}
use Rattle.cell_lines.specs.Cells.{point_text}
use Rattle.cell_lines.proofs.Writing.{texts-next, begins-on}
use Rattle.cell_lines.proofs.cells.put_each.Goals as goal

pub loop-c-preserved : goal.loop-c-preserved
loop-c-preserved c =
    let none : Cell = record { x = 0; y = 0 } in
    texts-next point_text c.args.cells.now c.loop-c.c-index none c.args.out.now.items c.loop-c.out.items
    c.put_point.new.out.items c.loop-c-test.true c.loop-c.invariant c.in_ok-put_point.ensures.ok

pub returns-in_err-put_point-clause-err : goal.returns-in_err-put_point-clause-err
returns-in_err-put_point-clause-err c =
    begins-on c.from_residual.result c.args.out.now.items c.loop-c.out.items c.put_point.new.out.items _
    c.loop-c.invariant c.in_err-put_point.ensures.err
