use Rattle.outcome_laws.proofs.Refusing.{bad_word_exists}
use Rattle.outcome_laws.proofs.of_answers.bad_words_exist.Goals as goal

pub returns : goal.returns
returns c = bad_word_exists
