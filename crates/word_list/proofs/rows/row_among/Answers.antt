use Rattle.std.proofs.Common.{◌∙◌, sym}
use Rattle.word_list.proofs.Table.{found, skipped}
use Rattle.word_list.proofs.rows.row_among.Goals as goal

pub loop-known-preserved : goal.loop-known-preserved
loop-known-preserved c =
    sym (skipped c.args.rows.now c.args.name.now c.loop-known.known-index _ c.loop-known-test.true
    (sym c.eq.ensures ∙ c.if-eq.false)) ∙ c.loop-known.invariant

pub returns-then-eq : goal.returns-then-eq
returns-then-eq c =
    sym (found c.args.rows.now c.args.name.now c.loop-known.known-index _ c.loop-known-test.true
    (sym c.eq.ensures ∙ c.if-eq.true)) ∙ c.loop-known.invariant
