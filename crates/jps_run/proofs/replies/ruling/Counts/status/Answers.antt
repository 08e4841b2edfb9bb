use Rattle.jps_run.proofs.Judged.{status_none, status_some}
use Rattle.jps_run.proofs.replies.ruling.Counts.status.Goals as goal

pub returns-then-self-eq0 : goal.returns-then-self-eq0
returns-then-self-eq0 c = λ all e. status_none c.args.self.now all e c.if-self-eq0.true

pub returns-else-self-eq0 : goal.returns-else-self-eq0
returns-else-self-eq0 c = λ all e. status_some c.args.self.now all e c.if-self-eq0.false
