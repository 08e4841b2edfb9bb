use Rattle.std.proofs.Common.{◌≡◌, true, subst, sym, ap, ◌∙◌, arith}
use Rattle.grid_moves.specs.Grid.{GridData, is_inside}
use Rattle.grid_moves.specs.Move.{is_open}
use Rattle.grid_moves.specs.Padded.{grid_in}
use Rattle.grid_moves.proofs.Padding.{ahead_inside, open_read}
use Rattle.grid_moves.proofs.grid.GridTerrain.open_by.Goals as goal

pub index-requires : goal.index-requires
index-requires c =
    let fields = c.self.inside in
    let grid : GridData = grid_in fields.width fields.height fields.corner fields.cells.items in
    let inside = subst (λ (g : GridData). is_inside g c.args.c ≡ true) (sym c.self.view_is)
    c.requires.inside in
    let below = ahead_inside grid c.args.c c.args.d inside in
    let long = c.self.invariant.long in
    let is = c.place_to.ensures in
    omega arith

pub returns : goal.returns
returns c =
    let fields = c.self.inside in
    let grid : GridData = grid_in fields.width fields.height fields.corner fields.cells.items in
    let inside = subst (λ (g : GridData). is_inside g c.args.c ≡ true) (sym c.self.view_is)
    c.requires.inside in
    open_read grid fields.cells.items c.self.invariant c.args.c c.args.d inside c.place_to.result
    c.place_to.ensures c.index.result.now c.index.ensures
    ∙ ap (λ (g : GridData). is_open g c.args.c c.args.d) c.self.view_is
