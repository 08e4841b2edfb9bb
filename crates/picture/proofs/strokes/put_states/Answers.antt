use Rattle.picture.specs.Picture.{state_stroke}
use Rattle.cell_lines.proofs.Writing.{texts-next}
use Rattle.picture.proofs.strokes.put_states.Goals as goal

pub loop-state-preserved : goal.loop-state-preserved
loop-state-preserved c = texts-next (state_stroke c.args.width) c.args.states.now c.loop-state.state-index 0
    c.args.out.now.items c.loop-state.out.items c.put_state.new.out.items c.loop-state-test.true
    c.loop-state.invariant c.in_ok-put_state.ensures
