use Rattle.outcome_laws.proofs.Only.{jumps_same}
use Rattle.outcome_laws.proofs.of_outcomes.jump_engines_print_the_same.Goals as goal

pub returns : goal.returns
returns c = jumps_same
