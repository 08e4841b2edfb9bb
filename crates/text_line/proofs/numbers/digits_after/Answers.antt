use Rattle.std.proofs.Common.{◌+◌, arith}
use Rattle.text_line.proofs.Digits.{after_more, after_part}
use Rattle.text_line.proofs.numbers.digits_after.Goals as goal

pub overflow_mul-value : goal.overflow_mul-value
overflow_mul-value c =
    let more = after_more c.args.number c.args.digits.now c.loop-digit.digit-index c.requires.digits
    c.loop-digit-test.true in
    omega (arith, more, after_part c.args.number c.args.digits.now (c.loop-digit.digit-index + 1))

pub overflow_add-value : goal.overflow_add-value
overflow_add-value c =
    let more = after_more c.args.number c.args.digits.now c.loop-digit.digit-index c.requires.digits
    c.loop-digit-test.true in
    omega (arith, more, after_part c.args.number c.args.digits.now (c.loop-digit.digit-index + 1))

pub loop-digit-preserved : goal.loop-digit-preserved
loop-digit-preserved c = grind (arith, after_more)
