use Rattle.std.proofs.Common.{◌∙◌, ap, length, List, subst, sym}
use Rattle.first_moves.specs.Kept.{AreRows}
use Rattle.first_moves.specs.declared.row.Run.{Run}
use Rattle.first_moves.proofs.Rows.{are_moves}
use Rattle.first_moves.proofs.moves.Moves.build.Goals as goal

pub returns : goal.returns
returns g c =
    let grid = g.T.Terrain.grid c.args.t.now in
    let moves = c.of_rows.result in
    are_moves grid moves.width moves.height moves.rows (c.of_rows.ensures.width ∙ c.width.ensures.is)
    (c.of_rows.ensures.height ∙ c.height.ensures.is)
    (ap (λ (rows : List (List Run)). length rows) c.of_rows.ensures.rows ∙ c.in_ok-rows.ensures.whole)
    (subst (λ (rows : List (List Run)). AreRows grid rows) (sym c.of_rows.ensures.rows)
    c.in_ok-rows.ensures.rows)
