use Rattle.grid_answers.specs.Printing.{printed_line}
use Rattle.grid_answers.proofs.Waved.{rows-next}
use Rattle.grid_answers.proofs.framed.put_rows.Goals as goal

pub loop-y-preserved : goal.loop-y-preserved
loop-y-preserved c =
    rows-next (printed_line c.args.waves.now) c.loop-y.y c.args.out.now.items c.loop-y.out.items
    c.put_costs.new.out.items c.loop-y.invariant c.in_ok-put_costs.ensures
