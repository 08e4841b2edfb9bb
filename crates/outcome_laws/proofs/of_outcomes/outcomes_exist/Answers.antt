use Rattle.outcome_laws.proofs.Existing.{outcomes_exist}
use Rattle.outcome_laws.proofs.of_outcomes.outcomes_exist.Goals as goal

pub returns : goal.returns
returns c = outcomes_exist
