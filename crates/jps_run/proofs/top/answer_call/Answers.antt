use Rattle.std.proofs.Common.{subst}
use Rattle.word_list.specs.Request.{called}
use Rattle.jps_run.specs.Opened.{IsOpenedAs}
use Rattle.jps_run.specs.declared.commands.Opened.{Opened}
use Rattle.jps_run.specs.Heard.{RoseHeard}
use Rattle.jps_run.specs.Counting.{heard}
use Rattle.jps_run.proofs.Rising.{on_ok}
use Rattle.line_work.proofs.Stopping.{if_ok}
use Rattle.jps_run.proofs.CallEnds.{heard-ends, may-hear, may-serve, on-session, server-ends, unopened-ends}
use Rattle.jps_run.proofs.CallEnds.{unsearched, work-counted, work-ends}
use Rattle.jps_run.proofs.top.answer_call.Goals as goal

pub returns-in_err-opened-clause-ended : goal.returns-in_err-opened-clause-ended
returns-in_err-opened-clause-ended g c =
    let input = g.I.Source.inflow c.args.input.now in
    let out = g.O.Sink.outflow c.args.out.now in
    unopened-ends (called c.args.request c.args.settings) (g.F.Files.disk c.args.files.now)
    (g.F.Files.disk c.open.new.files) input input out out c.from_residual.result c.in_err-opened.field-0.0
    c.in_err-opened.ensures.opened c.from_residual.ensures.1

pub returns-in-Work-clause-ended : goal.returns-in-Work-clause-ended
returns-in-Work-clause-ended g c =
    let call = called c.args.request c.args.settings in
    let disk = g.F.Files.disk c.args.files.now in
    let input = g.I.Source.inflow c.args.input.now in
    work-ends call disk (g.F.Files.disk c.open.new.files) input input (g.O.Sink.outflow c.args.out.now)
    (g.O.Sink.outflow c.perform.new.out) c.perform.result c.in-Work.work
    (subst (λ (o : Opened). IsOpenedAs call disk.holds o) c.in-Work.is c.in_ok-opened.ensures.opened)
    c.perform.ensures.sent

pub returns-in-Work-clause-counted : goal.returns-in-Work-clause-counted
returns-in-Work-clause-counted g c = on_ok c.perform.result (λ rose.
    work-counted (called c.args.request c.args.settings) (g.F.Files.disk c.args.files.now).holds
    c.in-Work.work
    (g.I.Source.inflow c.args.input.now).left c.args.steps.now c.perform.new.steps
    (subst (λ (o : Opened). IsOpenedAs (called c.args.request c.args.settings)
    (g.F.Files.disk c.args.files.now).holds o)
    c.in-Work.is c.in_ok-opened.ensures.opened) rose)
    c.perform.ensures.counted

pub returns-in-Listener-clause-ended : goal.returns-in-Listener-clause-ended
returns-in-Listener-clause-ended g c =
    let call = called c.args.request c.args.settings in
    let disk = g.F.Files.disk c.args.files.now in
    heard-ends call disk (g.F.Files.disk c.open.new.files) (g.I.Source.inflow c.args.input.now)
    (g.I.Source.inflow c.hear.new.input) (g.O.Sink.outflow c.args.out.now) (g.O.Sink.outflow c.hear.new.out)
    c.hear.result c.in-Listener.job
    (subst (λ (o : Opened). IsOpenedAs call disk.holds o) c.in-Listener.is c.in_ok-opened.ensures.opened)
    c.hear.ensures.heard

pub returns-in-Listener-clause-counted : goal.returns-in-Listener-clause-counted
returns-in-Listener-clause-counted g c = on_ok c.hear.result (λ rose.
    heard (on-session (called c.args.request c.args.settings) (g.F.Files.disk c.args.files.now).holds
    c.in-Listener.job
    (subst (λ (o : Opened). IsOpenedAs (called c.args.request c.args.settings)
    (g.F.Files.disk c.args.files.now).holds o)
    c.in-Listener.is c.in_ok-opened.ensures.opened)
    (λ d. RoseHeard d (g.I.Source.inflow c.args.input.now).left c.args.steps.now c.hear.new.steps) rose))
    c.hear.ensures.rose

pub returns-in-Listener-clause-input_stays : goal.returns-in-Listener-clause-input_stays
returns-in-Listener-clause-input_stays g c = λ not. absurd
    (not (may-hear (called c.args.request c.args.settings) (g.F.Files.disk c.args.files.now).holds
    c.in-Listener.job
    (subst (λ (o : Opened). IsOpenedAs (called c.args.request c.args.settings)
    (g.F.Files.disk c.args.files.now).holds o)
    c.in-Listener.is c.in_ok-opened.ensures.opened)))

pub serve_lines-requires : goal.serve_lines-requires
serve_lines-requires g c = record {
  fresh = (subst (λ (o : Opened). IsOpenedAs (called c.args.request c.args.settings)
      (g.F.Files.disk c.args.files.now).holds o)
      c.in-Server.is c.in_ok-opened.ensures.opened).on.such.begun;
}

pub returns-in-Server-clause-ended : goal.returns-in-Server-clause-ended
returns-in-Server-clause-ended g c =
    let call = called c.args.request c.args.settings in
    let disk = g.F.Files.disk c.args.files.now in
    server-ends call disk (g.F.Files.disk c.open.new.files) (g.I.Source.inflow c.args.input.now)
    (g.I.Source.inflow c.serve_lines.new.input) (g.O.Sink.outflow c.args.out.now)
    (g.O.Sink.outflow c.serve_lines.new.out) c.serve_lines.result c.in-Server.server
    (subst (λ (o : Opened). IsOpenedAs call disk.holds o) c.in-Server.is c.in_ok-opened.ensures.opened)
    c.serve_lines.ensures.served

pub returns-in-Server-clause-counted : goal.returns-in-Server-clause-counted
returns-in-Server-clause-counted g c = if_ok c.serve_lines.result
    (unsearched (called c.args.request c.args.settings)
    (g.F.Files.disk c.args.files.now).holds c.in-Server.server
    (g.I.Source.inflow c.args.input.now).left c.args.steps.now c.serve_lines.new.steps
    (subst (λ (o : Opened). IsOpenedAs (called c.args.request c.args.settings)
    (g.F.Files.disk c.args.files.now).holds o)
    c.in-Server.is c.in_ok-opened.ensures.opened))

pub returns-in-Server-clause-input_stays : goal.returns-in-Server-clause-input_stays
returns-in-Server-clause-input_stays g c = λ not. absurd
    (not (may-serve (called c.args.request c.args.settings) (g.F.Files.disk c.args.files.now).holds
    c.in-Server.server
    (subst (λ (o : Opened). IsOpenedAs (called c.args.request c.args.settings)
    (g.F.Files.disk c.args.files.now).holds o)
    c.in-Server.is c.in_ok-opened.ensures.opened)))
