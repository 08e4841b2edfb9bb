use Rattle.std.proofs.Common.{ℕ, ◌+◌, ◌*◌, ap, ◌∙◌}
use Rattle.jump_block.specs.Word.{words_of, nth_word, near, moves_before}
use Rattle.jump_block.proofs.Blocks.{nth_found, nth_marks, nth_passed}
use Rattle.jump_block.proofs.block.Block.seek.Goals as goal

pub returns-then-found-ne0 : goal.returns-then-found-ne0
returns-then-found-ne0 c = λ t block edges clear.
    let words = c.words-words.ensures ∙ ap (λ (w : ℕ). words_of c.args.self.now w) c.nth_word-w.ensures.is in
    c.halt_at.ensures c.args.rule t
    (moves_before c.args.way c.args.from
    (near c.args.way (c.args.start + nth_word c.args.way c.loop-n.n * 64)))
    (rw c.nth_word-w.ensures.is (nth_found t c.args.way c.args.from c.args.start c.args.i c.loop-n.n
    c.halts-found.result c.args.self.now c.words-words.result c.loop-n.last block c.loop-n.auto.n
    c.loop-n-test.true words c.requires.ahead (c.loop-n.invariant t block edges clear) c.halts-found.ensures))
    (rw c.nth_word-w.ensures.is (nth_marks t c.args.way c.args.from c.args.start c.args.i c.loop-n.n
    c.halts-found.result c.args.self.now c.words-words.result c.loop-n.last block c.loop-n.auto.n
    c.loop-n-test.true words c.requires.ahead (c.loop-n.invariant t block edges clear) c.halts-found.ensures
    c.args.rule c.marks-marks.result c.marks-marks.ensures))

pub loop-n-preserved : goal.loop-n-preserved
loop-n-preserved c = λ t block edges clear.
    let words = c.words-words.ensures ∙ ap (λ (w : ℕ). words_of c.args.self.now w) c.nth_word-w.ensures.is in
    nth_passed t c.args.way c.args.from c.args.start c.args.i c.loop-n.n
    c.halts-found.result c.args.self.now c.words-words.result c.loop-n.last block c.loop-n.auto.n
    c.loop-n-test.true words c.requires.ahead (c.loop-n.invariant t block edges clear) c.halts-found.ensures
    c.if-found-ne0.false
