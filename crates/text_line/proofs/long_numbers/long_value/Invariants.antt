use Rattle.std.proofs.Common.{◌≡◌, ◌<◌, ◌^◌, take}
use Rattle.text_line.specs.Numbers.{value_of}
use Rattle.text_line.proofs.long_numbers.long_value.Given as goal

-- the value so far is that of the digits behind, and it fits
abbrev pub invariant-loop-digit : goal.invariant-loop-digit
invariant-loop-digit l = record {
  value : l.value ≡ value_of (take l.digit-index l.digits);
  fits : l.value < 2 ^ 64;
}
