use Rattle.std.proofs.Common.{sym, ◌∙◌}
use Rattle.std.specs.Prelude.{Some, None}
use Rattle.word_list.proofs.Settled.{bytes_at, tables_ahead}
use Rattle.word_list.proofs.settings.table_file.Goals as goal

pub returns-in-Some : goal.returns-in-Some
returns-in-Some c =
    let at = bytes_at c.args.words.now c.loop-word.word-index c.word-item.result c.as_str.result.now
    c.loop-word-test.true c.word-item.is c.as_str.ensures.value in
    sym (c.loop-word.invariant
    ∙ tables_ahead _ c.loop-word.word-index _ (Some c.in-Some.name.now) at.0 at.1 c.in-Some.ensures)

pub loop-word-preserved : goal.loop-word-preserved
loop-word-preserved c =
    let at = bytes_at c.args.words.now c.loop-word.word-index c.word-item.result c.as_str.result.now
    c.loop-word-test.true c.word-item.is c.as_str.ensures.value in
    c.loop-word.invariant ∙ tables_ahead _ c.loop-word.word-index _ None at.0 at.1 c.in_default.ensures
