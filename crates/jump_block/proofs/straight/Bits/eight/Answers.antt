use Rattle.std.proofs.Common.{◌≡◌, ℕ, ◌+◌, ◌-◌, arith, ap}
use Rattle.jump_block.specs.declared.straight.Axis.TheVariants.{Row}
use Rattle.jump_block.specs.Source.{by_line}
use Rattle.jump_block.proofs.Rings.{eight_read, three_at}
use Rattle.jump_block.proofs.straight.Bits.eight.Goals as goal

pub returns-clause-around : goal.returns-clause-around
returns-clause-around g c = λ grid are free.
    let column = c.from-x.ensures in
    let row = c.from-y.ensures in
    let above : c.from-y.result + 1 - 1 ≡ c.args.at.y = omega (arith, row) in
    let below : c.from-y.result + 1 + 1 ≡ c.args.at.y + 2 = omega (arith, row) in
    let three = c.three_beside.ensures.shown _ _ _ are.rows in
    eight_read _ _ _ _ c.around_middle.ensures.is grid c.args.at
    (three_at (by_line grid Row) _ _ _ _ _ above column three.before)
    (three_at (by_line grid Row) _ _ _ _ _ (ap (λ (n : ℕ). n + 1) row) column three.middle)
    (three_at (by_line grid Row) _ _ _ _ _ below column three.after)
