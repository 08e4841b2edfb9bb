-- Numbers of up to 20 digits.
use Rattle.std.specs.Prelude.{◌≡◌, ℕ, ◌^◌, nat_lt, if◌then◌else◌, List, Option, Some, None, codes, refl}
use Rattle.text_line.specs.Numbers.{is_number, value_of}

-- the value of decimal digits, where it is below 2^64
abbrev pub value_below : List ℕ → Option ℕ
value_below digits = if nat_lt (value_of digits) (2 ^ 64) then Some (value_of digits) else None

-- the number that a word of 1 to 20 digits with a value below 2^64 spells; any other word spells none
unfoldable pub long_number_of : List ℕ → Option ℕ
long_number_of word = if is_number 20 word then value_below word else None

-- worked rows, by computing: leading zeros count as digits
pub greatest : long_number_of (codes "18446744073709551615") ≡ Some 18446744073709551615
unfolding long_number_of
greatest = refl

pub too_great : long_number_of (codes "18446744073709551616") ≡ None
unfolding long_number_of
too_great = refl

pub twenty_digits : long_number_of (codes "00000000000000000007") ≡ Some 7
unfolding long_number_of
twenty_digits = refl

pub twenty_one_digits : long_number_of (codes "000000000000000000007") ≡ None
unfolding long_number_of
twenty_one_digits = refl
