-- What a word of a command has to be, and what it spells.
use Rattle.std.specs.Prelude.{ℕ, Bool, true, nat_le, ◌&&◌, List, [], is_some, if◌then◌else◌, slice_get}
use Rattle.std.specs.Prelude.{Option, Some, None, unwrap_or}
use Rattle.text_line.specs.LongNumbers.{long_number_of}
use Rattle.text_line.specs.Numbers.{number_of}
use Rattle.word_list.specs.declared.rows.WordKind.{WordKind}
use Rattle.word_list.specs.declared.rows.WordKind.TheVariants.{File, Number, Seed, Side, Percent, Count}

-- the number, where it lies between these
abbrev pub number_within : ℕ → ℕ → Option ℕ → Option ℕ
number_within least most None = None
number_within least most (Some n) = if nat_le least n && nat_le n most then Some n else None

-- the side of a map that a word spells, if it is one
abbrev pub side_of : List ℕ → Option ℕ
side_of word = number_within 1 4096 (number_of word)

-- the percentage that a word spells, if it is one
abbrev pub percent_of : List ℕ → Option ℕ
percent_of word = number_within 0 100 (number_of word)

-- the number of entries that a word spells, if it is one
abbrev pub count_of : List ℕ → Option ℕ
count_of word = number_within 1 100000 (number_of word)

-- whether a word is of a kind: any word may name a file
abbrev pub is_of : WordKind → List ℕ → Bool
is_of File word = true
is_of Number word = is_some (number_of word)
is_of Seed word = is_some (long_number_of word)
is_of Side word = is_some (side_of word)
is_of Percent word = is_some (percent_of word)
is_of Count word = is_some (count_of word)

-- the word at a place, from 0
abbrev pub word_at : List (List ℕ) → ℕ → List ℕ
word_at words place = unwrap_or (slice_get words place) []

-- the number at a place
abbrev pub number_at : List (List ℕ) → ℕ → ℕ
number_at words place = unwrap_or (number_of (word_at words place)) 0

-- the seed, the side, the percentage and the number of entries at a place
abbrev pub seed_at : List (List ℕ) → ℕ → ℕ
seed_at words place = unwrap_or (long_number_of (word_at words place)) 0

abbrev pub side_at : List (List ℕ) → ℕ → ℕ
side_at words place = unwrap_or (side_of (word_at words place)) 1

abbrev pub percent_at : List (List ℕ) → ℕ → ℕ
percent_at words place = unwrap_or (percent_of (word_at words place)) 0

abbrev pub count_at : List (List ℕ) → ℕ → ℕ
count_at words place = unwrap_or (count_of (word_at words place)) 1
