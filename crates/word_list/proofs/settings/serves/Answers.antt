use Rattle.std.proofs.Common.{sym, ◌∙◌}
use Rattle.word_list.proofs.Settled.{all_yet, bytes_at, one_fails}
use Rattle.word_list.proofs.settings.serves.Goals as goal

pub returns-then-not-serves_at : goal.returns-then-not-serves_at
returns-then-not-serves_at c =
    let at = bytes_at c.args.words.now c.loop-word.word-index c.word-item.result c.as_str.result.now
    c.loop-word-test.true c.word-item.is c.as_str.ensures.value in
    sym (one_fails _ _ c.loop-word.word-index _ at.0 at.1 (sym c.serves_at.ensures ∙ c.if-not-serves_at.true))

pub loop-word-preserved : goal.loop-word-preserved
loop-word-preserved c =
    let at = bytes_at c.args.words.now c.loop-word.word-index c.word-item.result c.as_str.result.now
    c.loop-word-test.true c.word-item.is c.as_str.ensures.value in
    all_yet _ _ c.loop-word.word-index _ at.0 at.1 (sym c.serves_at.ensures ∙ c.if-not-serves_at.false)
    c.loop-word.invariant
