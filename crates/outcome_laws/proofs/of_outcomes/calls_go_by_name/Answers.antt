use Rattle.outcome_laws.proofs.Naming.{by_name}
use Rattle.outcome_laws.proofs.of_outcomes.calls_go_by_name.Goals as goal

pub returns : goal.returns
returns c = by_name
