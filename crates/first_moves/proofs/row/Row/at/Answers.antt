use Rattle.std.proofs.Common.{sym, ◌∙◌}
use Rattle.first_moves.proofs.Rows.{if_without_moves}
use Rattle.first_moves.proofs.row.Row.at.Goals as goal

pub returns-else-free-clause-row : goal.returns-else-free-clause-row
returns-else-free-clause-row g c =
    if_without_moves (g.T.Terrain.grid c.args.t.now) c.args.s c.without_moves.result c.requires.inside
    (sym c.free.ensures ∙ c.if-free.false) c.without_moves.ensures
