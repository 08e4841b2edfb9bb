use Rattle.jump_block.proofs.Blocks.{found_halt}
use Rattle.std.proofs.Common.{refl}
use Rattle.jump_block.proofs.block.halt_at.Goals as goal

pub returns : goal.returns
returns c = λ rule t n is shown. rw c.moves_short_of.ensures
    (found_halt t c.args.way c.args.from c.args.base n c.args.found is rule c.args.marks shown
    c.first-bit.result _ c.first-bit.ensures.small c.first-bit.ensures.set c.first-bit.ensures.first refl)
