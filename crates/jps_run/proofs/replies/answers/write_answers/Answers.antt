use Rattle.std.proofs.Common.{subst, List}
use Rattle.std.specs.Prelude.{OnOk}
use Rattle.script_text.specs.declared.command.ScriptCommand.{ScriptCommand}
use Rattle.jps_run.specs.Rising.{RoseForCommands}
use Rattle.jps_run.proofs.Rising.{on_ok, taken-none}
use Rattle.jps_run.proofs.Solving.{answered-none, answers-complete}
use Rattle.jps_run.proofs.replies.answers.write_answers.Goals as goal

pub work_items-requires-clause-completes : goal.work_items-requires-clause-completes
work_items-requires-clause-completes g c = answers-complete

pub work_items-requires-clause-begins : goal.work_items-requires-clause-begins
work_items-requires-clause-begins g c = answered-none c.args.job

pub work_items-requires-clause-counts : goal.work_items-requires-clause-counts
work_items-requires-clause-counts g c = taken-none c.args.job c.args.steps.now

pub returns-clause-counted : goal.returns-clause-counted
returns-clause-counted g c =
    subst (λ (items : List ScriptCommand). OnOk c.work_items.result
    (RoseForCommands c.args.job.session items c.args.steps.now c.work_items.new.steps))
    c.as_slice.ensures.value
    (on_ok c.work_items.result (λ taken. taken.rose) c.work_items.ensures.counted)
