use Rattle.std.proofs.Common.{ℕ, subst}
use Rattle.std.specs.Prelude.{Option}
use Rattle.std.proofs.lemmas.Result.{IfOk-from_err}
use Rattle.plain_search.specs.Progress.{HasEnded}
use Rattle.plain_search.proofs.search.least_in.Goals as goal

pub returns-in_err-at-clause-run : goal.returns-in_err-at-clause-run
returns-in_err-at-clause-run g c = IfOk-from_err c.from_residual.result _ c.from_residual.ensures.0

pub returns-in_err-at-clause-least : goal.returns-in_err-at-clause-least
returns-in_err-at-clause-least g c = IfOk-from_err c.from_residual.result _ c.from_residual.ensures.0

pub found-requires-clause-taken : goal.found-requires-clause-taken
found-requires-clause-taken g c =
    (subst (λ (o : Option ℕ). HasEnded (g.T.Terrain.grid c.args.t.now) c.args.from c.args.to
    c.take_counted.new.space.table c.take_counted.new.taken o) c.in-Some.is c.in_ok-at.ensures.ended).0

pub found-requires-clause-goal : goal.found-requires-clause-goal
found-requires-clause-goal g c =
    (subst (λ (o : Option ℕ). HasEnded (g.T.Terrain.grid c.args.t.now) c.args.from c.args.to
    c.take_counted.new.space.table c.take_counted.new.taken o) c.in-Some.is c.in_ok-at.ensures.ended).1
