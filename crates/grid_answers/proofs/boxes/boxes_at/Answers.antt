use Rattle.std.proofs.Common.{ap}
use Rattle.grid_moves.specs.declared.Cell.{Cell}
use Rattle.goal_boxes.specs.Made.{box_of}
use Rattle.grid_answers.specs.BoxLines.{boxes_answer, boxes_text}
use Rattle.grid_answers.proofs.Cells.{if_text, is-line}
use Rattle.grid_answers.proofs.boxes.boxes_at.Goals as goal

pub returns-in-Ok : goal.returns-in-Ok
returns-in-Ok c =
    if_text c.boxes_from.result c.boxes_from.ensures
    (ap (λ (s : Cell). boxes_answer c.args.layers.now s) c.in-Ok.ensures.0)

pub returns-in-Err : goal.returns-in-Err
unfolding boxes_answer
returns-in-Err c =
    if_text c.from_slice.result c.from_slice.ensures.items (is-line c.args.layers.now
    (record { x = c.args.x; y = c.args.y }) (λ line. line)
    (λ g. boxes_text (box_of g (record { x = c.args.x; y = c.args.y })))
    c.in-Err.line.now c.in-Err.ensures)
