-- The value of long numbers, digit by digit.
use Rattle.std.proofs.Common.{◌≡◌, ℕ, ◌+◌, ◌-◌, ◌*◌, ◌^◌, ◌<◌, ◌≤◌, true, List, length, get_or, take, Some}
use Rattle.std.proofs.Common.{None, refl, arith}
use Rattle.std.specs.List.{list_all}
use Rattle.std.specs.Char.{is_ascii_digit}
use Rattle.std.proofs.lemmas.Bool.{le-ltb, lt-ltb}
use Rattle.std.proofs.lemmas.List.{take_all}
use Rattle.text_line.specs.Numbers.{value_of}
use Rattle.text_line.specs.LongNumbers.{value_below}
use Rattle.text_line.proofs.Digits.{value_of_more, value_of_part}

-- where the first digits are worth 2^64 or more, all are
pub too_great : (ds : List ℕ) (i value : ℕ) → list_all is_ascii_digit ds ≡ true → i < length ds
    → value ≡ value_of (take i ds) → ¬ (value * 10 + (get_or ds i 0 - 48) < 2 ^ 64)
    → value_below ds ≡ None
too_great ds i value digits inside is great =
    let more = value_of_more ds i digits inside in
    let least : 2 ^ 64 ≤ value_of ds = omega (arith, more, value_of_part ds (i + 1)) in
    rw (le-ltb (value_of ds) (2 ^ 64) least) refl

-- where all digits are read, the value is theirs
pub all_read : (ds : List ℕ) (i value : ℕ) → length ds ≤ i → value ≡ value_of (take i ds) → value < 2 ^ 64
    → Some value ≡ value_below ds
all_read ds i value past is small = grind (arith, take_all, lt-ltb)
