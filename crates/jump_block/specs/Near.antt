-- The words around a cell.
use Rattle.std.specs.Prelude.{◌≡◌, ℕ, ◌+◌, ◌-◌, ◌*◌, ◌/◌, ◌<◌, Bool}
use Rattle.grid_moves.specs.Bits.{is_set}
use Rattle.bit_grid.specs.Bits.{LineData}
use Rattle.jump_block.specs.declared.word.Way.{Way}
use Rattle.jump_block.specs.declared.word.Way.TheVariants.{Forward, Back}
use Rattle.bit_grid.specs.declared.lines.ThreeWords.{ThreeWords}
use Rattle.jump_block.specs.Scan.{IsStart}

-- bit j of the word is what a line has at place j of the word's 64, among which the place is
abbrev pub HasNear : (ℕ → ℕ → Bool) → ℕ → ℕ → ℕ → Type 0
HasNear free line place word = (j : ℕ) → j < 64 → is_set word j ≡ free line (place / 64 * 64 + j)

-- the words of a line and of those beside it, which have a place of the line
pub record AreNear (free : ℕ → ℕ → Bool) (line place : ℕ) (w : ThreeWords) : Type 0 where
  pub middle : HasNear free line place w.middle
  pub before : HasNear free (line - 1) place w.before
  pub after : HasNear free (line + 1) place w.after

-- words that were read around the place, at which a scan starts
abbrev pub AreNearStart : LineData → ℕ → ℕ → ThreeWords → Type 0
AreNearStart l line place w = (free : ℕ → ℕ → Bool) → IsStart l free line place → AreNear free line place w

-- the three bits are what a line has from this place on
abbrev pub AreThree : (ℕ → ℕ → Bool) → ℕ → ℕ → ℕ → Type 0
AreThree free line first word = (j : ℕ) → j < 3 → is_set word j ≡ free line (first + j)

-- and those of the lines beside it
pub record AreThreeBeside (free : ℕ → ℕ → Bool) (line first : ℕ) (w : ThreeWords) : Type 0 where
  pub middle : AreThree free line first w.middle
  pub before : AreThree free (line - 1) first w.before
  pub after : AreThree free (line + 1) first w.after

-- the side to which a way across the lines leads
abbrev pub side_word : Way → ThreeWords → ℕ
side_word Forward w = w.after
side_word Back w = w.before

-- the bit next to one on the way, where the word has it
abbrev pub HasNextBit : Way → ℕ → Type 0
HasNextBit Forward place = place < 63
HasNextBit Back place = 0 < place

abbrev pub next_bit : Way → ℕ → ℕ
next_bit Forward place = place + 1
next_bit Back place = place - 1

-- the word next to one on the way, where a line of so many words has it
abbrev pub HasNextWord : Way → ℕ → ℕ → Type 0
HasNextWord Forward per_line word = word + 1 < per_line
HasNextWord Back per_line word = 0 < word

abbrev pub next_word : Way → ℕ → ℕ
next_word Forward word = word + 1
next_word Back word = word - 1
