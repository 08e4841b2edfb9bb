use Rattle.std.proofs.Common.{arith}
use Rattle.plus_tables.proofs.Laying.{laid_more}
use Rattle.plus_tables.proofs.lines.Line.lay_by.Goals as goal

pub loop-x-preserved : goal.loop-x-preserved
loop-x-preserved g c =
    laid_more c.loop-x.row c.loop-x.x (omega arith) c.args.heading c.args.self.now c.args.row.now
    c.put_cell.new.row c.as_slice-n.result.now c.as_slice-ne.result.now c.as_slice-nw.result.now
    c.as_slice-e.result.now c.as_slice-w.result.now c.loop-x.invariant c.as_slice-n.ensures.value
    c.as_slice-ne.ensures.value c.as_slice-nw.ensures.value c.as_slice-e.ensures.value
    c.as_slice-w.ensures.value c.put_cell.ensures
