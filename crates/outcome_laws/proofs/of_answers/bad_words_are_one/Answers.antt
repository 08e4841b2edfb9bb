use Rattle.outcome_laws.proofs.Words.{one_bad_word}
use Rattle.outcome_laws.proofs.of_answers.bad_words_are_one.Goals as goal

pub returns : goal.returns
returns c = one_bad_word
