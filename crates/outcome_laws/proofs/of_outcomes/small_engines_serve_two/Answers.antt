use Rattle.outcome_laws.proofs.Serving.{served}
use Rattle.outcome_laws.proofs.of_outcomes.small_engines_serve_two.Goals as goal

pub returns : goal.returns
returns c = served
