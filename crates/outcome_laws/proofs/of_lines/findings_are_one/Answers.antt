use Rattle.outcome_laws.proofs.Findings.{findings_same}
use Rattle.outcome_laws.proofs.of_lines.findings_are_one.Goals as goal

pub returns : goal.returns
returns c = findings_same
