use Rattle.std.proofs.Common.{ap, ◌∙◌, sym, Bool, nat_eq}
use Rattle.std.specs.Prelude.{if◌then◌else◌}
use Rattle.grid_moves.specs.Bits.{is_set}
use Rattle.bit_grid.proofs.Words.{set_with, set_without}
use Rattle.bit_grid.proofs.lines.with_bit.Goals as goal

pub returns-then-free : goal.returns-then-free
returns-then-free c = λ j h. set_with c.args.word c.args.place j c.requires
    ∙ ap (λ (b : Bool). if nat_eq j c.args.place then b else is_set c.args.word j) (sym c.if-free.true)

pub returns-else-free : goal.returns-else-free
returns-else-free c = λ j h. set_without c.args.word c.args.place j c.requires h
    ∙ ap (λ (b : Bool). if nat_eq j c.args.place then b else is_set c.args.word j) (sym c.if-free.false)
