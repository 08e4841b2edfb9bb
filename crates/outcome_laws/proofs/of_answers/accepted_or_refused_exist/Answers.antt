use Rattle.outcome_laws.proofs.Refusing.{accepted_or_refused}
use Rattle.outcome_laws.proofs.of_answers.accepted_or_refused_exist.Goals as goal

pub returns : goal.returns
returns c = accepted_or_refused
