-- Lengths in decimals.
use Rattle.std.specs.Prelude.{ℕ, Bool, ◌+◌, ◌^◌, ◌<◌, ◌≤◌, ◌==◌, ◌&&◌, if◌then◌else◌, List, [], ◌++◌, length}
use Rattle.std.specs.Prelude.{take, drop, position, Option, Some, None}
use Rattle.text_line.specs.Numbers.{is_number, value_of}
use Rattle.root2_cost.specs.declared.lengths.Decimal.{Decimal}

-- the point, which stands before the decimals
abbrev pub is_point : ℕ → Bool
is_point byte = byte == 46

-- the number with these digits before the point and these behind it, of which ten are kept
abbrev pub decimal_of : List ℕ → List ℕ → Decimal
decimal_of whole decimals =
    record { digits = value_of (whole ++ take 10 decimals); places = length (take 10 decimals) }

-- the length that a word spells whose first point stands at this place, where it has one: 1 to 8 digits, and
-- behind a point 1 to 20
abbrev pub length_parted : List ℕ → Option ℕ → Option Decimal
length_parted word None = if is_number 8 word then Some (decimal_of word []) else None
length_parted word (Some point) =
    if is_number 8 (take point word) && is_number 20 (drop (point + 1) word)
    then Some (decimal_of (take point word) (drop (point + 1) word)) else None

-- the length that a word spells, where it spells one
unfoldable pub length_of : List ℕ → Option Decimal
length_of word = length_parted word (position is_point word)

-- a length has at most 18 digits, of which at most ten stand behind the point
pub record IsKept (length : Decimal) : Type 0 where
  pub digits : length.digits < 10 ^ 18
  pub places : length.places ≤ 10
