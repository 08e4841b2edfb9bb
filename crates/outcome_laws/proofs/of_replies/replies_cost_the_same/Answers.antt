use Rattle.outcome_laws.proofs.Replies.{reply_found}
use Rattle.outcome_laws.proofs.of_replies.replies_cost_the_same.Goals as goal

pub returns : goal.returns
returns c = reply_found
