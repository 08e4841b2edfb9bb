use Rattle.outcome_laws.proofs.Words.{none_of_calls}
use Rattle.outcome_laws.proofs.of_answers.calls_have_none.Goals as goal

pub returns : goal.returns
returns c = none_of_calls
