use Rattle.outcome_laws.proofs.Begun.{written_begins}
use Rattle.outcome_laws.proofs.of_outcomes.written_begins_the_output.Goals as goal

pub returns : goal.returns
returns c = written_begins
