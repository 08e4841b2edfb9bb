use Rattle.outcome_laws.proofs.Taken.{taken_begins}
use Rattle.outcome_laws.proofs.of_lines.taken_begins_heard.Goals as goal

pub returns : goal.returns
returns c = taken_begins
