use Rattle.std.proofs.Common.{◌≡◌, ℕ, ◌+◌, ◌*◌, ◌/◌, ◌%◌, arith, ap, ◌∙◌}
use Rattle.jump_block.proofs.cells.word_with.Goals as goal

pub returns-clause-shown : goal.returns-clause-shown
returns-clause-shown g c = λ count positions free shows j h.
    let place : c.args.place / 512 * 512 + c.args.place / 64 % 8 * 64 + j ≡ c.args.place / 64 * 64 + j =
    omega arith in
    c.lane-lane.ensures.shown count positions free shows (c.args.place / 64 % 8) j (omega arith) h
    ∙ ap (λ (p : ℕ). free c.args.line p) place
