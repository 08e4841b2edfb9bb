-- Eight words of a line.
use Rattle.std.specs.Prelude.{◌≡◌, ℕ, ◌<◌, Bool, List, slice_index_or}
use Rattle.grid_moves.specs.Bits.{is_set}
use Rattle.jump_block.specs.declared.word.Way.{Way}
use Rattle.jump_block.specs.declared.word.Way.TheVariants.{Forward, Back}

-- the bit of a word to which the way comes last
abbrev pub last_bit : Way → ℕ
last_bit Forward = 63
last_bit Back = 0

-- no bit is set in any of them
abbrev pub HasNone : List ℕ → Type 0
HasNone words = (w : ℕ) → w < 8 → slice_index_or words w 0 ≡ 0

-- each bit of each of them is set, or none is
abbrev pub IsAllAs : Bool → List ℕ → Type 0
IsAllAs set words = (w j : ℕ) → w < 8 → j < 64 → is_set (slice_index_or words w 0) j ≡ set
