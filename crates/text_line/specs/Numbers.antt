-- Numbers in texts.
use Rattle.std.specs.Prelude.{ℕ, Bool, List, length, Option, Some, None, nat_le, ◌&&◌, if◌then◌else◌}
use Rattle.std.specs.List.{list_all}
use Rattle.std.specs.Char.{is_ascii_digit}
use Rattle.std.specs.Str.Parse.{digits_value}

-- whether a word has 1 to `most` decimal digits and nothing else; leading zeros are digits
abbrev pub is_number : ℕ → List ℕ → Bool
is_number most word = nat_le 1 (length word) && nat_le (length word) most && list_all is_ascii_digit word

-- the number that decimal digits spell, the first of them worth most
abbrev pub value_of : List ℕ → ℕ
value_of digits = digits_value 10 digits

-- the number that a word of 1 to 9 digits spells; any other word spells none
unfoldable pub number_of : List ℕ → Option ℕ
number_of word = if is_number 9 word then Some (value_of word) else None
