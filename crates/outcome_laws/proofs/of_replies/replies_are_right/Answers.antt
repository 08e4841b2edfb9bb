use Rattle.jps_run.proofs.Existing.{replies_right}
use Rattle.outcome_laws.proofs.of_replies.replies_are_right.Goals as goal

pub returns : goal.returns
returns c = replies_right
