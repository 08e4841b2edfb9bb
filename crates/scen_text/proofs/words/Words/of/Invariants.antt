use Rattle.text_line.specs.Places.{placed}
use Rattle.scen_text.specs.Progress.{plain_words, HasWordsBefore}
use Rattle.std.proofs.Common.{◌∷◌}
use Rattle.scen_text.proofs.words.Words.of.Given as goal

-- the fields behind are those of the words
abbrev pub invariant-loop-field : goal.invariant-loop-field
invariant-loop-field l = HasWordsBefore (placed l.bucket ∷ l.fn.fields) (plain_words l.words) l.field-iterator
