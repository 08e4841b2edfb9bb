use Rattle.outcome_laws.proofs.Rows.{rows_alike}
use Rattle.outcome_laws.proofs.of_lines.rows_differ_in_taken.Goals as goal

pub returns : goal.returns
returns c = rows_alike
