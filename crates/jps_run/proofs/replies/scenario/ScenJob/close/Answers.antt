use Rattle.jps_run.proofs.ScenRows.{rows-all}
use Rattle.jps_run.proofs.replies.scenario.ScenJob.close.Goals as goal

pub returns-clause-closed : goal.returns-clause-closed
returns-clause-closed c =
    rows-all c.args.self.now c.status.result c.args.lines.now.items c.put.new.out.items c.in_ok-put.ensures
    c.status.ensures
