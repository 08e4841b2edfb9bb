use Rattle.std.proofs.Common.{◌≡◌, take}
use Rattle.std.specs.Str.Parse.{digits_value_after}
use Rattle.text_line.proofs.numbers.digits_after.Given as goal

-- the value so far is that of the digits behind
abbrev pub invariant-loop-digit : goal.invariant-loop-digit
invariant-loop-digit l = l.value ≡ digits_value_after 10 l.number (take l.digit-index l.digits)
