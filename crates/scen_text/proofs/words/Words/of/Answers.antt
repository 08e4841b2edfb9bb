use Rattle.std.proofs.Common.{List, ◌∷◌, sym, subst}
use Rattle.text_line.specs.Places.{Placed, placed}
use Rattle.scen_text.specs.Words.{Words}
use Rattle.scen_text.specs.Progress.{plain_words, HasWordsBefore}
use Rattle.scen_text.proofs.Split.{words_more}
use Rattle.scen_text.proofs.words.Words.of.Goals as goal

pub loop-field-preserved : goal.loop-field-preserved
loop-field-preserved c =
    let all = placed c.args.bucket ∷ c.args.fields in
    let before = subst (λ (left : List Placed). HasWordsBefore all (plain_words c.loop-field.words) left)
    c.in-Some.ensures.steps c.loop-field.invariant in
    let after =
    words_more all c.next.new.self (plain_words c.loop-field.words) (placed c.in-Some.field) before in
    subst (λ (words : Words). HasWordsBefore all words c.next.new.self) (sym c.widened-words.ensures) after
