use Rattle.std.proofs.Common.{◌∙◌}
use Rattle.grid_answers.proofs.Waved.{cost-rows}
use Rattle.grid_answers.proofs.costs.costs_from.Goals as goal

pub returns : goal.returns
returns c =
    let found = c.in_ok-pass.ensures in
    let made = c.in_ok-waves.ensures in
    cost-rows c.args.layers.now c.args.from (record { waves = c.pass.new.self }) c.in_ok-rows.rows
    c.query_grid-grid.result.now c.height-2.result c.query_grid-grid.ensures c.requires.free c.requires.told
    found.tells
    (found.width ∙ made.width ∙ c.width.ensures.is) (found.height ∙ made.height ∙ c.height.ensures.is)
    c.in_ok-rows.ensures c.height-2.ensures.is
