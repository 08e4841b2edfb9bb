use Rattle.outcome_laws.proofs.Files.{one_list}
use Rattle.outcome_laws.proofs.of_answers.accepted_texts_are_one.Goals as goal

pub returns : goal.returns
returns c = one_list
