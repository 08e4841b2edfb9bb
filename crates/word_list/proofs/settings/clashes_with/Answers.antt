use Rattle.std.proofs.Common.{sym}
use Rattle.word_list.proofs.Settled.{bytes_at, any_here, none_yet}
use Rattle.word_list.proofs.settings.clashes_with.Goals as goal

pub returns-then-clashes_at : goal.returns-then-clashes_at
returns-then-clashes_at c =
    let at = bytes_at c.args.before.now c.loop-word.word-index c.word-item.result c.as_str.result.now
    c.loop-word-test.true c.word-item.is c.as_str.ensures.value in
    sym (any_here _ _ c.loop-word.word-index _ at.0 at.1 (sym c.if-clashes_at.ensures))

pub loop-word-preserved : goal.loop-word-preserved
loop-word-preserved c =
    let at = bytes_at c.args.before.now c.loop-word.word-index c.word-item.result c.as_str.result.now
    c.loop-word-test.true c.word-item.is c.as_str.ensures.value in
    none_yet _ _ c.loop-word.word-index _ at.0 at.1 (sym c.if-clashes_at.ensures) c.loop-word.invariant
