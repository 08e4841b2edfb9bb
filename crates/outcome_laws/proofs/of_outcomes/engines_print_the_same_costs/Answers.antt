use Rattle.outcome_laws.proofs.Only.{costs_same}
use Rattle.outcome_laws.proofs.of_outcomes.engines_print_the_same_costs.Goals as goal

pub returns : goal.returns
returns c = costs_same
