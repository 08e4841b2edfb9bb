use Rattle.std.proofs.Common.{suc, ap, ◌∙◌}
use Rattle.grid_moves.specs.Grid.{GridData}
use Rattle.grid_moves.specs.Padded.{place_of}
use Rattle.grid_moves.proofs.Padding.{place_there}
use Rattle.grid_moves.proofs.grid.GridTerrain.place_ahead.Goals as goal

pub returns : goal.returns
returns c = λ v e.
    c.place_to.ensures ∙ place_there c.self.inside.width c.args.c.x c.args.c.y c.args.d v e
    ∙ ap (λ (g : GridData). place_of g.width (suc v.x) (suc v.y)) c.self.view_is
