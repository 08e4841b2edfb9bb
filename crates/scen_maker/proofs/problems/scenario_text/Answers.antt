use Rattle.std.proofs.Common.{◌∙◌, ap}
use Rattle.std.proofs.lemmas.List.{take_all}
use Rattle.std.proofs.lemmas.Result.{IfOk-from_err}
use Rattle.scen_maker.specs.Problems.{scenario_on}
use Rattle.scen_maker.proofs.Posed.{scenario-more}
use Rattle.scen_maker.proofs.problems.scenario_text.Goals as goal

pub loop-problem-preserved : goal.loop-problem-preserved
loop-problem-preserved c =
    scenario-more c.args.layers.now c.args.name.now c.args.problems.now c.loop-problem.problem-index _
    c.loop-problem.text.items c.put_problem.new.out.items c.loop-problem-test.true c.loop-problem.invariant
    c.in_ok-put_problem.ensures

pub returns-in_err-put_version : goal.returns-in_err-put_version
returns-in_err-put_version c = IfOk-from_err c.from_residual.result _ c.from_residual.ensures.0

pub returns-in_err-put_problem : goal.returns-in_err-put_problem
returns-in_err-put_problem c = IfOk-from_err c.from_residual-in_err-put_problem.result _
    c.from_residual-in_err-put_problem.ensures.0

pub returns : goal.returns
returns c = c.loop-problem.invariant
    ∙ ap (scenario_on c.args.layers.now c.args.name.now)
    (take_all c.loop-problem.problem-index c.args.problems.now c.loop-problem-test.false)
