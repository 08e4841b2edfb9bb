use Rattle.std.proofs.Common.{◌∙◌}
use Rattle.jump_block.proofs.straight.Bits.is_open.Goals as goal

pub returns-clause-is : goal.returns-clause-is
returns-clause-is g c = λ grid are free.
    c.bit_of.ensures.shown _ _ _ are.rows ∙ c.bit_beside-bit.ensures.is grid
