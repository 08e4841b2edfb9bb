use Rattle.outcome_laws.proofs.Loaded.{tables_same}
use Rattle.outcome_laws.proofs.of_outcomes.with_tables_the_same.Goals as goal

pub returns : goal.returns
returns c = tables_same
