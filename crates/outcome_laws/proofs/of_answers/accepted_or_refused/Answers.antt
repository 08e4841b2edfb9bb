use Rattle.outcome_laws.proofs.Files.{not_both}
use Rattle.outcome_laws.proofs.of_answers.accepted_or_refused.Goals as goal

pub returns : goal.returns
returns c = not_both
