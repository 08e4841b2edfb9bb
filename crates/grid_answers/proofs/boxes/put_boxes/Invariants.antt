use Rattle.std.proofs.Common.{◌≡◌, ◌++◌, take}
use Rattle.goal_boxes.specs.Box.{box_in}
use Rattle.grid_answers.specs.BoxLines.{box_line}
use Rattle.cell_lines.specs.Cells.{texts_of}
use Rattle.grid_answers.proofs.boxes.put_boxes.Given as goal

abbrev pub invariant-loop-d : goal.invariant-loop-d
invariant-loop-d l = l.out.items ≡ l.fn.out.items
    ++ texts_of (box_line (box_in l.boxes)) (take l.d-index l.dirs)
