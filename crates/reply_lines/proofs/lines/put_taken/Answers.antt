use Rattle.std.proofs.Common.{◌++◌}
use Rattle.std.specs.Prelude.{codes}
use Rattle.cell_lines.specs.Cells.{state_text}
use Rattle.cell_lines.proofs.Writing.{texts-next}
use Rattle.reply_lines.proofs.lines.put_taken.Goals as goal

pub loop-state-preserved : goal.loop-state-preserved
loop-state-preserved c =
    texts-next (state_text c.args.width) c.args.taken.now c.loop-state.state-index 0
    (c.args.out.now.items ++ codes " taken") c.loop-state.out.items c.put_state.new.out.items
    c.loop-state-test.true c.loop-state.invariant c.in_ok-put_state-in-Trace.ensures.ok
