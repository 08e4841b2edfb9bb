-- Rows turned to columns.
use Rattle.std.specs.Prelude.{◌≡◌, ℕ, ◌+◌, ◌*◌, ◌/◌, ◌%◌, ◌<◌, ◌≤◌, Bool, false, List, length, nat_lt}
use Rattle.std.specs.Prelude.{slice_index_or, if◌then◌else◌}
use Rattle.grid_moves.specs.Bits.{is_set}

-- a word of a row, and 0 where there is no such row
abbrev pub word_or_none : List ℕ → ℕ → ℕ → ℕ → ℕ → ℕ
word_or_none words lines per_line word line =
    if nat_lt line lines then slice_index_or words (line * per_line + word) 0 else 0

-- the first so many are this word of each row
abbrev pub AreWordsTo : ℕ → List ℕ → List ℕ → ℕ → ℕ → ℕ → Type 0
AreWordsTo end down words lines per_line word =
    (l : ℕ) → l < end → slice_index_or down l 0 ≡ word_or_none words lines per_line word l

-- the first so many bytes are those at a place of the words, bit by bit
abbrev pub AreBytesTo : ℕ → List ℕ → List ℕ → ℕ → Type 0
AreBytesTo end strip down place = (l : ℕ) → l < end → (k : ℕ) → k < 8
    → is_set (slice_index_or strip l 0) k ≡ is_set (slice_index_or down l 0) (place * 8 + k)

-- one byte of each row, bit by bit, and none set where there is no such row
abbrev pub IsStrip : List ℕ → List ℕ → ℕ → ℕ → ℕ → Type 0
IsStrip strip words lines per_line byte = (l : ℕ) → l < length strip → (k : ℕ) → k < 8
    → is_set (slice_index_or strip l 0) k
    ≡ is_set (word_or_none words lines per_line (byte / 8) l) (byte % 8 * 8 + k)

-- the words show lines one after the other, so many words each
abbrev pub ArePackedSoFar : (ℕ → ℕ → Bool) → ℕ → List ℕ → Type 0
ArePackedSoFar free per_line words = (m : ℕ) → m < length words → (j : ℕ) → j < 64
    → is_set (slice_index_or words m 0) j ≡ free (m / per_line) (m % per_line * 64 + j)

-- the words show these rows, and all rows beyond them are blocked
pub record IsWhole (words : List ℕ) (lines per_line : ℕ) (free : ℕ → ℕ → Bool) : Type 0 where
  pub bits : (line w j : ℕ) → line < lines → w < per_line → j < 64
      → is_set (slice_index_or words (line * per_line + w) 0) j ≡ free line (w * 64 + j)
  pub beyond : (line place : ℕ) → lines ≤ line → free line place ≡ false
