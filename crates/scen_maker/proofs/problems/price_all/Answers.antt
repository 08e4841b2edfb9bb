use Rattle.std.proofs.Common.{◌∙◌, ap, map, subst, sym}
use Rattle.std.proofs.lemmas.List.{take_all}
use Rattle.std.proofs.lemmas.Result.{IfOk-from_err}
use Rattle.grid_moves.specs.Layers.{AreLayers, Layers}
use Rattle.scen_maker.specs.Problems.{priced}
use Rattle.scen_maker.proofs.Posed.{priced-more}
use Rattle.scen_maker.proofs.problems.price_all.Goals as goal

pub loop-ends-preserved : goal.loop-ends-preserved
loop-ends-preserved g c = record {
  priced = priced-more c.loop-ends.costs c.args.costs.now c.args.kept.now c.loop-ends.ends-index _
      c.loop-ends.problems.items c.push.new.self.items c.in_ok-problem.problem c.loop-ends.invariant.same
      c.loop-ends-test.true c.loop-ends.invariant.priced c.in_ok-problem.ensures.priced
      c.in_ok-push.ensures.items;
  same = c.price.ensures.unchanged ∙ c.loop-ends.invariant.same;
}

pub returns-in_err-problems-clause-priced : goal.returns-in_err-problems-clause-priced
returns-in_err-problems-clause-priced g c =
    IfOk-from_err c.from_residual.result _ c.from_residual.ensures.0

pub returns-in_err-problem-clause-priced : goal.returns-in_err-problem-clause-priced
returns-in_err-problem-clause-priced g c =
    IfOk-from_err c.from_residual-in_err-problem.result _ c.from_residual-in_err-problem.ensures.0

pub returns-in_err-problem-clause-unchanged : goal.returns-in_err-problem-clause-unchanged
returns-in_err-problem-clause-unchanged g c = c.price.ensures.unchanged ∙ c.loop-ends.invariant.same

pub returns-in_err-push-clause-priced : goal.returns-in_err-push-clause-priced
returns-in_err-push-clause-priced g c =
    IfOk-from_err c.from_residual-in_err-push.result _ c.from_residual-in_err-push.ensures.0

pub returns-in_err-push-clause-unchanged : goal.returns-in_err-push-clause-unchanged
returns-in_err-push-clause-unchanged g c = c.price.ensures.unchanged ∙ c.loop-ends.invariant.same

pub returns-clause-priced : goal.returns-clause-priced
returns-clause-priced g c =
    c.loop-ends.invariant.priced
    ∙ ap (map (priced c.args.costs.now))
    (take_all c.loop-ends.ends-index c.args.kept.now c.loop-ends-test.false)

pub returns-clause-unchanged : goal.returns-clause-unchanged
returns-clause-unchanged g c = c.loop-ends.invariant.same

pub price-requires-clause-layers : goal.price-requires-clause-layers
price-requires-clause-layers g c =
    subst (λ (ls : Layers). AreLayers ls) (sym c.loop-ends.invariant.same) c.requires.layers
