use Rattle.outcome_laws.proofs.Files.{one_line}
use Rattle.outcome_laws.proofs.of_answers.refused_lines_are_one.Goals as goal

pub returns : goal.returns
returns c = one_line
