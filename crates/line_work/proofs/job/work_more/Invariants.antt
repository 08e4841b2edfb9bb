use Rattle.std.proofs.Common.{◌-◌, length, take}
use Rattle.line_work.specs.Working.{CountsMore, IsWorkingOn}
use Rattle.line_work.proofs.job.work_more.Given as goal

abbrev pub invariant-loop-item : goal.invariant-loop-item
invariant-loop-item g l = record {
  working : IsWorkingOn g.J.Job.has_worked l.fn.job l.job (take l.item-index l.items)
      (g.O.Sink.outflow l.fn.out) (g.O.Sink.outflow l.out) l.lines.items;
  room : g.J.Job.has_room l.job (length l.items - l.item-index);
  counted : CountsMore g.J.Job.has_counted l.fn.job l.job (take l.item-index l.items) l.fn.steps l.steps;
}
