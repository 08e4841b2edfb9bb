use Rattle.std.proofs.Common.{ap, ◌∙◌}
use Rattle.grid_moves.specs.Grid.{GridData, is_free}
use Rattle.grid_moves.specs.Padded.{grid_in}
use Rattle.grid_moves.proofs.Padding.{free_read}
use Rattle.grid_moves.proofs.grid.GridTerrain.free.Goals as goal

pub returns-then-c-self : goal.returns-then-c-self
returns-then-c-self c =
    let fields = c.self.inside in
    let grid : GridData = grid_in fields.width fields.height fields.corner fields.cells.items in
    free_read grid fields.cells.items c.self.invariant c.args.c c.if-c-self.true c.place_of.result
    c.place_of.ensures c.index.result.now c.index.ensures
    ∙ ap (λ (g : GridData). is_free g c.args.c) c.self.view_is
