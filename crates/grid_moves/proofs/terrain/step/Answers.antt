use Rattle.std.proofs.Common.{rules, ◌≡◌, true}
use Rattle.grid_moves.specs.declared.Cell.{Cell}
use Rattle.grid_moves.specs.Grid.{GridData}
use Rattle.grid_moves.specs.Move.{is_legal}
use Rattle.grid_moves.proofs.Legal.{legal_is}
use Rattle.grid_moves.proofs.Places.{free_below}
use Rattle.grid_moves.proofs.terrain.step.Goals as goal

pub returns-then-is_legal-clause-inside : goal.returns-then-is_legal-clause-inside
returns-then-is_legal-clause-inside g c =
    let grid : GridData = g.T.Terrain.grid c.args.t.now in
    let to : Cell = c.in_ok-to.to in
    let legal : is_legal grid c.args.c to ≡ true = search rules in
    free_below grid to (legal_is grid c.args.c to legal).target
