use Rattle.std.proofs.Common.{arith}
use Rattle.text_line.proofs.Digits.{value_of-lt, short_number}
use Rattle.text_line.proofs.numbers.number.Goals as goal

pub digits_after-requires-clause-fits : goal.digits_after-requires-clause-fits
digits_after-requires-clause-fits c = grind (arith, short_number, value_of-lt)

pub overflow_cast-result : goal.overflow_cast-result
overflow_cast-result c = grind (arith, short_number, value_of-lt)
