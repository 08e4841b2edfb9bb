use Rattle.std.proofs.Common.{ℕ, ◌*◌, ◌∙◌, ap}
use Rattle.std.proofs.lemmas.Result.{IfOk-from_err}
use Rattle.goal_boxes.proofs.boxed.run_alone.Goals as goal

pub returns-in_err-space-clause-run : goal.returns-in_err-space-clause-run
returns-in_err-space-clause-run g c = IfOk-from_err c.from_residual.result _ c.from_residual.ensures.0

pub returns-in_err-space-clause-least : goal.returns-in_err-space-clause-least
returns-in_err-space-clause-least g c = IfOk-from_err c.from_residual.result _ c.from_residual.ensures.0

pub returns-in_err-space-clause-passes : goal.returns-in_err-space-clause-passes
returns-in_err-space-clause-passes g c = IfOk-from_err c.from_residual.result _ c.from_residual.ensures.0

pub returns-clause-run : goal.returns-clause-run
returns-clause-run g c = c.run.ensures.run

pub returns-clause-least : goal.returns-clause-least
returns-clause-least g c = c.run.ensures.least

pub returns-clause-passes : goal.returns-clause-passes
returns-clause-passes g c = c.run.ensures.passes

pub run-requires-clause-layout : goal.run-requires-clause-layout
run-requires-clause-layout g c = c.in_ok-space.ensures.layout

pub run-requires-clause-room : goal.run-requires-clause-room
run-requires-clause-room g c =
    c.in_ok-space.ensures.places ∙ ap (λ (n : ℕ). n * c.width.result) c.height.ensures.is
    ∙ ap (λ (n : ℕ). (g.T.Terrain.grid c.args.t.now).height * n) c.width.ensures.is
