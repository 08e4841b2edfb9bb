use Rattle.std.proofs.Common.{[], sym, ◌∙◌}
use Rattle.map_text.proofs.Words.{words_more, words_differ}
use Rattle.map_text.proofs.reading.has_words.Goals as goal

pub returns-in_default-next : goal.returns-in_default-next
returns-in_default-next c =
    let differ = words_differ (λ word. word.now) c.args.words.now c.loop-word.word-index
    (record { ref_ptr = (0, 0); now = [] }) c.loop-word.fields c.next.new.self c.in-Some-next.field.now
    c.loop-word-test.true c.in-Some-next.ensures.steps (sym c.if-eq.ensures) in
    rw (c.in-Some.is, ← c.of-fields.ensures) (sym differ ∙ c.loop-word.invariant)

pub loop-word-preserved : goal.loop-word-preserved
loop-word-preserved c =
    let more = words_more (λ word. word.now) c.args.words.now c.loop-word.word-index
    (record { ref_ptr = (0, 0); now = [] }) c.loop-word.fields c.next.new.self c.in-Some-next.field.now
    c.loop-word-test.true c.in-Some-next.ensures.steps (sym c.if-eq.ensures) in
    sym more ∙ c.loop-word.invariant
