use Rattle.grid_answers.proofs.Waved.{one-line}
use Rattle.grid_answers.proofs.costs.costs_at.Goals as goal

pub returns-in_ok-text-in-Err : goal.returns-in_ok-text-in-Err
returns-in_ok-text-in-Err c =
    one-line c.args.layers.now (record { x = c.args.x; y = c.args.y }) c.in_ok-text-in-Err.text
    c.in-Err.line.now c.in_ok-text-in-Err.ensures.items c.in-Err.ensures
