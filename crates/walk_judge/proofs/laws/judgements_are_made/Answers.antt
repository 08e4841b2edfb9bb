use Rattle.walk_judge.proofs.Judgements.{judgements_are_made}
use Rattle.walk_judge.proofs.laws.judgements_are_made.Goals as goal

pub returns : goal.returns
returns c = judgements_are_made
