use Rattle.jps_run.proofs.Drilling.{drilled-all}
use Rattle.jps_run.proofs.replies.findings.SummaryJob.close.Goals as goal

pub returns-clause-closed : goal.returns-clause-closed
returns-clause-closed c = drilled-all c.args.self.now c.args.lines.now.items c.put.new.out.items
    c.in_ok-put.ensures
