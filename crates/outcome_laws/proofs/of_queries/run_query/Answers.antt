use Rattle.outcome_laws.proofs.Query.{prints_query}
use Rattle.outcome_laws.proofs.of_queries.run_query.Goals as goal

pub returns : goal.returns
returns g c = record { prints = prints_query _ _ _ _ _ _ _ _ _ _ c.run.ensures.right }
