use Rattle.grid_answers.specs.RunLines.{run_line}
use Rattle.cell_lines.proofs.Writing.{texts-next-at}
use Rattle.grid_answers.proofs.moves.put_runs.Goals as goal

pub loop-i-preserved : goal.loop-i-preserved
loop-i-preserved c =
    texts-next-at (run_line c.args.width) c.args.row.now c.loop-i.i _ c.args.out.now.items c.loop-i.out.items
    c.put_run.new.out.items c.run_at-start.ensures c.loop-i.invariant c.in_ok-put_run.ensures
