use Rattle.outcome_laws.proofs.Replies.{reply_alike}
use Rattle.outcome_laws.proofs.of_replies.alike_reply_the_same.Goals as goal

pub returns : goal.returns
returns c = reply_alike
