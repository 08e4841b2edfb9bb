use Rattle.std.proofs.Common.{◌≡◌, true, subst, sym, ap, ◌∙◌}
use Rattle.grid_moves.specs.Grid.{GridData, IsGrid, grid_with, is_free, is_inside}
use Rattle.grid_moves.specs.Padded.{grid_in}
use Rattle.grid_moves.proofs.Edited.{is_free-with_other, is_free-with_same}
use Rattle.grid_moves.proofs.Padding.{grid_in_is, grid_in_padded, padded_with}
use Rattle.grid_moves.proofs.grid.Grid.set.Goals as goal

pub invariant_of-self : goal.invariant_of-self
invariant_of-self c =
    let fields = c.self.inside in
    let old : GridData = grid_in fields.width fields.height fields.corner fields.cells.items in
    let inside = subst (λ (g : GridData). is_inside g c.args.c ≡ true) (sym c.self.view_is) c.requires in
    grid_in_padded (grid_with old c.args.c c.args.free) _
    (padded_with old fields.cells.items c.self.invariant c.args.c c.args.free inside c.place_of-place.result
    c.place_of-place.ensures)

pub returns-clause-edited : goal.returns-clause-edited
returns-clause-edited c =
    let fields = c.self.inside in
    let old : GridData = grid_in fields.width fields.height fields.corner fields.cells.items in
    let inside = subst (λ (g : GridData). is_inside g c.args.c ≡ true) (sym c.self.view_is) c.requires in
    grid_in_is (grid_with old c.args.c c.args.free) _
    (padded_with old fields.cells.items c.self.invariant c.args.c c.args.free inside c.place_of-place.result
    c.place_of-place.ensures)
    ∙ ap (λ (g : GridData). grid_with g c.args.c c.args.free) c.self.view_is

pub returns-clause-cell : goal.returns-clause-cell
returns-clause-cell c = ap (λ (g : GridData). is_free g c.args.c) (returns-clause-edited c)
    ∙ is_free-with_same c.args.self.now c.args.c c.args.free
    (subst (λ (g : GridData). IsGrid g) c.self.view_is c.self.invariant.grid) c.requires

pub returns-clause-others : goal.returns-clause-others
returns-clause-others c = λ d other. ap (λ (g : GridData). is_free g d) (returns-clause-edited c)
    ∙ is_free-with_other c.args.self.now c.args.c d c.args.free c.requires other
