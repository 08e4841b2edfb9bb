use Rattle.std.proofs.Common.{◌*◌, ◌/◌, sym, subst}
use Rattle.bit_grid.specs.declared.lines.ThreeWords.{ThreeWords}
use Rattle.jump_block.specs.Word.{AreWordsOf}
use Rattle.jump_block.proofs.Blocks.{own_word}
use Rattle.jump_block.proofs.block.Block.halt_first.Goals as goal

pub returns-clause-halts : goal.returns-clause-halts
returns-clause-halts c = λ t block.
    c.halt_near.ensures.halts t
    (subst (λ (v : ThreeWords). AreWordsOf t c.args.way c.args.from (c.args.from / 64 * 64) v)
    (sym c.words.ensures) (own_word t c.args.way c.args.from c.args.self.now block))

pub returns-clause-clear : goal.returns-clause-clear
returns-clause-clear c = λ none t block.
    c.halt_near.ensures.clear none t
    (subst (λ (v : ThreeWords). AreWordsOf t c.args.way c.args.from (c.args.from / 64 * 64) v)
    (sym c.words.ensures) (own_word t c.args.way c.args.from c.args.self.now block))
