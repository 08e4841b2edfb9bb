use Rattle.grid_moves.specs.declared.Dir.TheVariants.{N}
use Rattle.goal_boxes.specs.Box.{box_in}
use Rattle.grid_answers.specs.BoxLines.{box_line}
use Rattle.cell_lines.proofs.Writing.{texts-next}
use Rattle.grid_answers.proofs.boxes.put_boxes.Goals as goal

pub loop-d-preserved : goal.loop-d-preserved
loop-d-preserved c =
    texts-next (box_line (box_in c.args.boxes)) c.args.dirs.now c.loop-d.d-index N c.args.out.now.items
    c.loop-d.out.items c.put_box.new.out.items c.loop-d-test.true c.loop-d.invariant c.in_ok-put_box.ensures
