use Rattle.grid_answers.proofs.Cells.{boxes-told, if_text}
use Rattle.grid_answers.proofs.boxes.boxes_from.Goals as goal

pub returns : goal.returns
returns c =
    if_text c.lines_of.result c.lines_of.ensures
    (boxes-told c.args.layers.now c.args.from c.query_grid.result.now
    c.in_ok-boxes.boxes c.query_grid.ensures c.requires.free c.requires.told c.in_ok-boxes.ensures)
