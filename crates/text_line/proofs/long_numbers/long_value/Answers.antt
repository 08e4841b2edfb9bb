use Rattle.std.proofs.Common.{arith}
use Rattle.text_line.proofs.Digits.{value_of_more}
use Rattle.text_line.proofs.LongDigits.{too_great, all_read}
use Rattle.text_line.proofs.long_numbers.long_value.Goals as goal

pub returns-in_err-value : goal.returns-in_err-value
returns-in_err-value c = grind (arith, too_great)

pub loop-digit-preserved : goal.loop-digit-preserved
loop-digit-preserved c = grind (arith, value_of_more)

pub returns : goal.returns
returns c = grind (arith, all_read)
