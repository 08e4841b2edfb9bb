use Rattle.std.proofs.Common.{ap, sym, ◌∙◌}
use Rattle.grid_moves.specs.declared.Corner.{Corner}
use Rattle.grid_moves.specs.declared.Dir.{Dir}
use Rattle.grid_moves.specs.Grid.{GridData}
use Rattle.pruning.specs.declared.turns.Side.TheVariants.{Right, Left}
use Rattle.jump_plain.specs.Reach.{first_sides, sides_after}
use Rattle.jump_plain.proofs.jump.stops_at.Goals as goal

pub finds_stop-requires-clause-sides : goal.finds_stop-requires-clause-sides
finds_stop-requires-clause-sides g c =
    let grid : GridData = g.T.Terrain.grid c.args.t.now in
    c.sides_after-right.ensures ∙ ap (λ (r : Corner). sides_after r c.args.beside Right) c.corner.ensures
    ∙ c.requires.sides Right
    ∙ ap (λ (e : Dir). first_sides grid.corner grid c.args.next.cell e) (sym c.turn.ensures)

pub finds_stop-requires-else-finds_stop-clause-sides :
    goal.finds_stop-requires-else-finds_stop-clause-sides
finds_stop-requires-else-finds_stop-clause-sides g c =
    let grid : GridData = g.T.Terrain.grid c.args.t.now in
    c.sides_after-left.ensures ∙ ap (λ (r : Corner). sides_after r c.args.beside Left) c.corner-2.ensures
    ∙ c.requires.sides Left
    ∙ ap (λ (e : Dir). first_sides grid.corner grid c.args.next.cell e) (sym c.turn-else-finds_stop.ensures)
