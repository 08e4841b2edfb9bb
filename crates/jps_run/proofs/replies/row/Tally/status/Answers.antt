use Rattle.jps_run.proofs.Tallies.{status_right, status_wrong}
use Rattle.jps_run.proofs.replies.row.Tally.status.Goals as goal
use Rattle.jps_run.proofs.replies.row.Tally.status.Goals.{else-self-eq0-via-then-self-eq0+else-self-eq0-2}
use Rattle.jps_run.proofs.replies.row.Tally.status.Goals.{else-self-eq0-via-else-self-eq0}

pub returns-then-self-eq0-2 : goal.returns-then-self-eq0-2
returns-then-self-eq0-2 c =
    λ rows e. status_right c.args.self.now rows e c.if-self-eq0.true c.if-self-eq0-2.true

pub returns-else-self-eq0 : goal.returns-else-self-eq0
returns-else-self-eq0 c = λ rows e. status_wrong c.args.self.now rows e (elim c.else-self-eq0.branch [
  | else-self-eq0-via-then-self-eq0+else-self-eq0-2 w ↦ λ _ o. w.if-self-eq0-2.false o
  | else-self-eq0-via-else-self-eq0 w ↦ λ f _. w.if-self-eq0.false f
])
