use Rattle.std.proofs.Common.{ap}
use Rattle.grid_moves.specs.declared.Cell.{Cell}
use Rattle.first_moves.specs.Row.{row_of}
use Rattle.grid_answers.specs.RunLines.{moves_answer, runs_text}
use Rattle.grid_answers.proofs.Cells.{if_text, is-line}
use Rattle.grid_answers.proofs.moves.moves_at.Goals as goal

pub returns-in-Ok : goal.returns-in-Ok
returns-in-Ok c =
    if_text c.moves_from.result c.moves_from.ensures
    (ap (λ (s : Cell). moves_answer c.args.layers.now s) c.in-Ok.ensures.0)

pub returns-in-Err : goal.returns-in-Err
unfolding moves_answer
returns-in-Err c =
    if_text c.from_slice.result c.from_slice.ensures.items (is-line c.args.layers.now
    (record { x = c.args.x; y = c.args.y }) (λ line. line)
    (λ g. runs_text g.width (row_of g (record { x = c.args.x; y = c.args.y })))
    c.in-Err.line.now c.in-Err.ensures)
