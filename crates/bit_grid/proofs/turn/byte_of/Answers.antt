use Rattle.std.proofs.Common.{◌*◌, ◌/◌, ◌^◌, ◌∙◌}
use Rattle.grid_moves.proofs.Bits.{set_from}
use Rattle.bit_grid.proofs.Lanes.{set_in_byte}
use Rattle.bit_grid.proofs.turn.byte_of.Goals as goal

pub returns : goal.returns
returns c = λ k h.
    set_in_byte (c.args.word / 2 ^ (c.args.place * 8)) k h ∙ set_from c.args.word (c.args.place * 8) k
