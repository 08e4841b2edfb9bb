use Rattle.std.proofs.Common.{sym, ◌∙◌}
use Rattle.potential_check.proofs.Words.{words_cut, words_one}
use Rattle.potential_check.proofs.forms.first_word.Goals as goal

pub returns-in-Some-clause-words : goal.returns-in-Some-clause-words
returns-in-Some-clause-words c = words_cut c.args.line.now c.in-Some.end (sym c.place_of_space.ensures
    ∙ c.in-Some.is)

pub returns-in-None-clause-words : goal.returns-in-None-clause-words
returns-in-None-clause-words c = words_one c.args.line.now (sym c.place_of_space.ensures ∙ c.in-None.is)
