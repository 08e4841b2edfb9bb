use Rattle.grid_answers.proofs.Waved.{costs-untold}
use Rattle.grid_answers.proofs.framed.framed_costs.Goals as goal

pub returns-in_ok-text-in-Err : goal.returns-in_ok-text-in-Err
returns-in_ok-text-in-Err c =
    costs-untold c.args.layers.now (record { x = c.args.x; y = c.args.y }) c.in-Err.line.now
    c.in_ok-text-in-Err.text.items c.in_ok-text-in-Err.ensures.items c.in-Err.ensures
