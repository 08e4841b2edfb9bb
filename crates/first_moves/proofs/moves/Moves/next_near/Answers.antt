use Rattle.std.proofs.Common.{subst}
use Rattle.std.specs.Prelude.{Option}
use Rattle.grid_moves.specs.declared.Dir.{Dir}
use Rattle.first_moves.specs.First.{IsFirstMove}
use Rattle.first_moves.proofs.Following.{next_ahead}
use Rattle.first_moves.proofs.moves.Moves.next_near.Goals as goal

pub returns-in-Some-clause-next : goal.returns-in-Some-clause-next
returns-in-Some-clause-next g c = λ grid moves.
    next_ahead grid c.args.s c.args.t c.in-Some.d c.cell_ahead.result
    (subst (λ (o : Option Dir). IsFirstMove grid c.args.s c.args.t o) c.in-Some.is
    (c.first_near.ensures.first grid moves)) c.cell_ahead.ensures

pub returns-in-None-clause-next : goal.returns-in-None-clause-next
returns-in-None-clause-next g c = λ grid moves.
    subst (λ (o : Option Dir). IsFirstMove grid c.args.s c.args.t o) c.in-None.is
    (c.first_near.ensures.first grid moves)
