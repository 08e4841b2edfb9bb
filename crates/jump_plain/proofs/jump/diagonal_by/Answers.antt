use Rattle.std.proofs.lemmas.Bool.Decides.{nat_tests}
use Rattle.std.proofs.lemmas.Grind.{common_steps}
use Rattle.std.proofs.Common.{arith, ap, refl, ◌∙◌}
use Rattle.grid_moves.specs.Grid.{GridData}
use Rattle.pruning.specs.declared.turns.Side.TheVariants.{Right, Left}
use Rattle.pruning.specs.Turns.{turn}
use Rattle.jump_plain.specs.declared.beside.Sides.{Sides}
use Rattle.jump_plain.proofs.Besides.{beyond_diagonal, beyond_legal, beyond_stuck}
use Rattle.jump_plain.proofs.Forcing.{clear_past}
use Rattle.jump_plain.proofs.jump.diagonal_by.Goals as goal

pub returns-then-leads_on-clause-legal : goal.returns-then-leads_on-clause-legal
returns-then-leads_on-clause-legal g c = grind (arith, nat_tests, common_steps, beyond_diagonal, beyond_legal)

pub returns-then-leads_on-clause-clear : goal.returns-then-leads_on-clause-clear
returns-then-leads_on-clause-clear g c =
    let grid : GridData = g.T.Terrain.grid c.args.t.now in
    let right = ap (λ (b : Sides). b.right) c.requires.beside in
    let left = ap (λ (b : Sides). b.left) c.requires.beside in
    let can = beyond_diagonal grid c.args.at c.args.d c.requires.free c.requires.diagonal
    c.corner.result c.corner.ensures
    c.args.beside.right c.args.beside.left c.is_passable.result c.leads_on.result right left
    c.is_passable.ensures c.leads_on.ensures in
    let legal = beyond_legal grid c.args.at c.beyond-cell.result c.args.d c.beyond-cell.ensures
    (can ∙ c.if-leads_on.true) in
    clear_past grid c.args.at c.beyond-cell.result c.args.d legal c.requires.diagonal
    (turn Right c.args.d) (turn Left c.args.d) refl refl c.args.beside.right c.args.beside.left
    c.both-clear.result right left c.both-clear.ensures

pub returns-else-leads_on-clause-legal : goal.returns-else-leads_on-clause-legal
returns-else-leads_on-clause-legal g c = grind (arith, nat_tests, common_steps, beyond_diagonal, beyond_stuck)
