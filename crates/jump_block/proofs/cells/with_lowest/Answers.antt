use Rattle.std.proofs.Common.{◌≡◌, suc, ◌*◌, ◌%◌, ◌∙◌, ap, arith, Bool, false, ◌||◌}
use Rattle.grid_moves.specs.Bits.{is_set}
use Rattle.grid_moves.proofs.Bits.{set_or}
use Rattle.bit_grid.proofs.Words.{set_raised, set_raised-lowest, set_flag, set_flag-above}
use Rattle.jump_block.proofs.cells.with_lowest.Goals as goal

or_nothing : (a b : Bool) → b ≡ false → (a || b) ≡ a
or_nothing a b h = grind arith

pub returns-clause-lowest : goal.returns-clause-lowest
returns-clause-lowest c =
    set_or (c.args.word * 2 % 18446744073709551616) c.from.result 0
    ∙ ap (λ (b : Bool). b || is_set c.from.result 0) (set_raised-lowest c.args.word)
    ∙ set_flag c.args.bit c.from.result c.from.ensures

pub returns-clause-others : goal.returns-clause-others
returns-clause-others c = λ j h.
    set_or (c.args.word * 2 % 18446744073709551616) c.from.result (suc j)
    ∙ or_nothing (is_set (c.args.word * 2 % 18446744073709551616) (suc j)) (is_set c.from.result (suc j))
    (set_flag-above c.args.bit c.from.result j c.from.ensures)
    ∙ set_raised c.args.word j h
