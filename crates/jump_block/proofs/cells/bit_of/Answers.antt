use Rattle.std.proofs.Common.{◌≡◌, ℕ, ◌+◌, ◌*◌, ◌/◌, ◌%◌, arith, ap, ◌∙◌}
use Rattle.jump_block.proofs.cells.bit_of.Goals as goal

pub returns-clause-shown : goal.returns-clause-shown
returns-clause-shown g c = λ count positions free shows.
    let place : c.args.place / 64 * 64 + c.args.place % 64 ≡ c.args.place = omega arith in
    c.is_set.ensures
    ∙ c.word_with.ensures.shown count positions free shows (c.args.place % 64) (omega arith)
    ∙ ap (λ (p : ℕ). free c.args.line p) place
