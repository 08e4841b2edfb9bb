use Rattle.std.proofs.Common.{refl, arith, subst, List}
use Rattle.std.specs.Prelude.{OnOk}
use Rattle.scen_text.specs.declared.entry.Entry.{Entry}
use Rattle.jps_run.specs.Rising.{RoseForEntries}
use Rattle.jps_run.specs.Answerers.{who_of}
use Rattle.jps_run.proofs.Rising.{on_ok}
use Rattle.jps_run.proofs.ScenRows.{new-room, rows-complete, rows-none}
use Rattle.jps_run.proofs.replies.scenario.write_rows.Goals as goal

pub work_items-requires-clause-room : goal.work_items-requires-clause-room
work_items-requires-clause-room g c = new-room c.args.job _ c.requires.ready c.requires.new (omega arith)

pub work_items-requires-clause-completes : goal.work_items-requires-clause-completes
work_items-requires-clause-completes g c = rows-complete

pub work_items-requires-clause-begins : goal.work_items-requires-clause-begins
work_items-requires-clause-begins g c = rows-none c.args.job c.requires.ready c.requires.new

pub work_items-requires-clause-counts : goal.work_items-requires-clause-counts
work_items-requires-clause-counts g c = record { rose = refl; same = refl }

pub returns-clause-counted : goal.returns-clause-counted
returns-clause-counted g c =
    subst (λ (items : List Entry). OnOk c.work_items.result
    (RoseForEntries (who_of c.args.job.answerer) items c.args.steps.now c.work_items.new.steps))
    c.as_slice.ensures.value
    (on_ok c.work_items.result (λ taken. taken.rose) c.work_items.ensures.counted)
