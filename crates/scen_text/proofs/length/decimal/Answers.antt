use Rattle.std.proofs.Common.{◌≡◌, ℕ, min, arith}
use Rattle.std.proofs.lemmas.List.{take_min, length-take}
use Rattle.text_line.proofs.Digits.{value_of-lt, after_append, digits_part, short_number}
use Rattle.scen_text.proofs.Values.{both-lt}
use Rattle.scen_text.proofs.length.decimal.Goals as goal

min_flip : (m n : ℕ) → min m n ≡ min n m
min_flip m n = omega arith

pub digits_after-requires-clause-fits : goal.digits_after-requires-clause-fits
digits_after-requires-clause-fits c = grind (arith, short_number, value_of-lt)

pub digits_after-requires-2-clause-fits : goal.digits_after-requires-2-clause-fits
digits_after-requires-2-clause-fits c = grind (arith, short_number, length-take, both-lt, digits_part)

pub returns : goal.returns
returns c = grind (arith, min_flip, take_min, after_append)
