use Rattle.jump_block.proofs.Words.{begun_words}
use Rattle.jump_block.proofs.word.begun.Goals as goal

pub returns : goal.returns
returns c = λ t way base are.
    begun_words c.args.rule c.start_bit-bit.result c.args.place c.start_bit-bit.ensures.uncut
    c.start_bit-bit.ensures.cut c.requires way base t c.args.words are
