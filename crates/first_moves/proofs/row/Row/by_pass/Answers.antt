use Rattle.std.proofs.Common.{◌∙◌}
use Rattle.first_moves.proofs.Rows.{if_row}
use Rattle.first_moves.proofs.row.Row.by_pass.Goals as goal

pub returns-clause-row : goal.returns-clause-row
returns-clause-row g c =
    if_row (g.T.Terrain.grid c.args.t.now) c.args.s c.pass.new.self c.of_waves.result
    (c.pass.ensures.width ∙ c.requires.width) (c.pass.ensures.height ∙ c.requires.height)
    c.in_ok-pass.ensures.tells c.of_waves.ensures
