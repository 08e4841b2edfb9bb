use Rattle.outcome_laws.proofs.Only.{outcomes_one}
use Rattle.outcome_laws.proofs.of_outcomes.outcomes_are_one.Goals as goal

pub returns : goal.returns
returns c = outcomes_one
