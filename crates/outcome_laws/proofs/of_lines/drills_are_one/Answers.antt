use Rattle.outcome_laws.proofs.Findings.{drills_same}
use Rattle.outcome_laws.proofs.of_lines.drills_are_one.Goals as goal

pub returns : goal.returns
returns c = drills_same
