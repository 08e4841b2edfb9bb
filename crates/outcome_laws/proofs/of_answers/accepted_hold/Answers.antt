use Rattle.outcome_laws.proofs.Certificates.{accepted_hold}
use Rattle.outcome_laws.proofs.of_answers.accepted_hold.Goals as goal

pub returns : goal.returns
returns c = accepted_hold
