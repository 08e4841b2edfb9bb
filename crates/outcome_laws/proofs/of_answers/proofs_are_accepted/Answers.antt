use Rattle.outcome_laws.proofs.Certificates.{proofs_accepted}
use Rattle.outcome_laws.proofs.of_answers.proofs_are_accepted.Goals as goal

pub returns : goal.returns
returns c = proofs_accepted
