use Rattle.std.proofs.Common.{length, subst, sym, List, ◌≤◌, ◌^◌}
use Rattle.std.specs.Prelude.{OnOk}
use Rattle.script_text.specs.declared.command.ScriptCommand.{ScriptCommand}
use Rattle.line_work.specs.Sending.{SendsWhole}
use Rattle.jps_run.specs.Drilling.{IsDrilled}
use Rattle.jps_run.specs.Rising.{RoseForCommands}
use Rattle.jps_run.proofs.Rising.{on_ok}
use Rattle.jps_run.proofs.Drilling.{all-fit, drill-complete, drilled-none, taken-none}
use Rattle.jps_run.proofs.replies.findings.write_sums.Goals as goal

pub work_items-requires-clause-room : goal.work_items-requires-clause-room
work_items-requires-clause-room g c =
    all-fit c.args.job (length c.as_slice.result.now) c.requires.new
    (subst (λ (cs : List ScriptCommand). length cs ≤ 2 ^ 32) (sym c.as_slice.ensures.value) c.requires.few)

pub work_items-requires-clause-completes : goal.work_items-requires-clause-completes
work_items-requires-clause-completes g c = drill-complete

pub work_items-requires-clause-begins : goal.work_items-requires-clause-begins
work_items-requires-clause-begins g c = drilled-none c.args.job c.requires.new

pub work_items-requires-clause-counts : goal.work_items-requires-clause-counts
work_items-requires-clause-counts g c = taken-none c.args.job c.args.steps.now

pub returns-clause-counted : goal.returns-clause-counted
returns-clause-counted g c =
    subst (λ (items : List ScriptCommand). OnOk c.work_items.result
    (RoseForCommands c.args.job.session items c.args.steps.now c.work_items.new.steps))
    c.as_slice.ensures.value
    (on_ok c.work_items.result (λ taken. taken.rose) c.work_items.ensures.counted)

pub returns-clause-sent : goal.returns-clause-sent
returns-clause-sent g c =
    subst (λ (items : List ScriptCommand). SendsWhole (IsDrilled c.args.job items)
    (g.O.Sink.outflow c.args.out.now)
    (g.O.Sink.outflow c.work_items.new.out) c.work_items.result) c.as_slice.ensures.value
    c.work_items.ensures.sent
