-- Words of a trail: 64 places of a line, and the places beside them.
use Rattle.std.specs.Prelude.{◌≡◌, ℕ, suc, ◌+◌, ◌*◌, ◌-◌, ◌<◌, ◌≤◌, Bool, true, nat_lt, if◌then◌else◌}
use Rattle.std.specs.Prelude.{length, slice_index_or}
use Rattle.grid_moves.specs.Bits.{is_set}
use Rattle.jump_block.specs.declared.word.Way.{Way}
use Rattle.jump_block.specs.declared.word.Way.TheVariants.{Forward, Back}
use Rattle.bit_grid.specs.declared.lines.ThreeWords.{ThreeWords}
use Rattle.jump_block.specs.declared.block.Block.{Block}
use Rattle.jump_block.specs.Trail.{Trail, IsClear, halts, opens}

-- the way that leads forward, or else back
abbrev pub way_of : Bool → Way
way_of forward = if forward then Forward else Back

-- from this start, k moves lead to the place
abbrev pub Meets : Way → ℕ → ℕ → ℕ → Type 0
Meets Forward from place k = from + k ≡ place
Meets Back from place k = place + k ≡ from

-- bit j of the word is what the trail has at the place `base + j`
abbrev pub IsWordOf : (ℕ → Bool) → Way → ℕ → ℕ → ℕ → Type 0
IsWordOf side way from base word = (j k : ℕ) → j < 64 → Meets way from (base + j) k → is_set word j ≡ side k

pub record AreWordsOf (t : Trail) (way : Way) (from base : ℕ) (w : ThreeWords) : Type 0 where
  pub middle : IsWordOf t.free way from base w.middle
  pub before : IsWordOf t.before way from base w.before
  pub after : IsWordOf t.after way from base w.after

-- An edge stands between two places, before the place of its number. The word's last bit on the way is what
-- the trail has just before the edge.
abbrev pub IsEdgeOf : (ℕ → Bool) → Way → ℕ → ℕ → ℕ → Type 0
IsEdgeOf side Forward from edge word = (k : ℕ) → from + suc k ≡ edge → is_set word 63 ≡ side k
IsEdgeOf side Back from edge word = (k : ℕ) → edge + k ≡ from → is_set word 0 ≡ side k

pub record AreEdgesOf (t : Trail) (way : Way) (from edge : ℕ) (w : ThreeWords) : Type 0 where
  pub before : IsEdgeOf t.before way from edge w.before
  pub after : IsEdgeOf t.after way from edge w.after

-- the edges where the way enters and leaves the word from `base` on
abbrev pub near : Way → ℕ → ℕ
near Forward base = base
near Back base = base + 64

abbrev pub far : Way → ℕ → ℕ
far Forward base = base + 64
far Back base = base

-- in the word from `base` on, each bit tells this of the move to its place
abbrev pub TellMoves : (ℕ → Bool) → Way → ℕ → ℕ → ℕ → Type 0
TellMoves tell way from base bits =
    (j k : ℕ) → j < 64 → Meets way from (base + j) (suc k) → is_set bits j ≡ tell k

-- the bits at which a side opens in a word, given the word before
abbrev pub IsOpened : Way → ℕ → ℕ → ℕ → Type 0
IsOpened way word last found = (side : ℕ → Bool) (from base : ℕ) → IsWordOf side way from base word
    → IsEdgeOf side way from (near way base) last
    → TellMoves (opens side) way from base found

-- the same of each trail that has these words, given the one before
abbrev pub TellTrails : (Trail → ℕ → Bool) → Way → ThreeWords → ThreeWords → ℕ → Type 0
TellTrails tell way words last bits = (t : Trail) (from base : ℕ) → AreWordsOf t way from base words
    → AreEdgesOf t way from (near way base) last → TellMoves (tell t) way from base bits

-- how many moves are made before the way crosses the edge
abbrev pub moves_before : Way → ℕ → ℕ → ℕ
moves_before Forward from edge = edge - (from + 1)
moves_before Back from edge = from - edge

-- how many moves are made before the one to the place
abbrev pub moves_short_of : Way → ℕ → ℕ → ℕ
moves_short_of Forward from place = place - (from + 1)
moves_short_of Back from place = from - (place + 1)

-- on the way, the one bit comes after the other
abbrev pub is_past : Way → ℕ → ℕ → Bool
is_past Forward place j = nat_lt place j
is_past Back place j = nat_lt j place

-- the i-th word of a block on the way
abbrev pub nth_word : Way → ℕ → ℕ
nth_word Forward i = i
nth_word Back i = 7 - i

-- the edge before the i-th word of the block from `start` on
abbrev pub edge_before : Way → ℕ → ℕ → ℕ
edge_before Forward start i = start + i * 64
edge_before Back start i = start + (8 - i) * 64

-- it has eight words of each line
abbrev pub AreEight : Block → Type 0
AreEight b = (length b.middle.now ≡ 8) × (length b.before.now ≡ 8) × (length b.after.now ≡ 8)

-- word w of a block
abbrev pub words_of : Block → ℕ → ThreeWords
words_of b w = record {
  middle = slice_index_or b.middle.now w 0;
  before = slice_index_or b.before.now w 0;
  after = slice_index_or b.after.now w 0;
}

-- from the i-th word on the way, the block from `start` on is what the trail has there
abbrev pub IsBlockOf : Trail → Way → ℕ → ℕ → ℕ → Block → Type 0
IsBlockOf t way from start i b = (n : ℕ) → i ≤ n → n < 8
    → AreWordsOf t way from (start + nth_word way n * 64) (words_of b (nth_word way n))

-- the edge lies on the way
abbrev pub IsAhead : Way → ℕ → ℕ → Type 0
IsAhead Forward from edge = from < edge
IsAhead Back from edge = edge ≤ from

-- the bits at which a scan halts in the word from `base` on, given that it makes n moves, and more only to
-- the word's places
pub record IsFound (t : Trail) (way : Way) (from base n found : ℕ) : Type 0 where
  pub clear : IsClear t n
  pub bits : TellMoves (halts t) way from base found
  pub past : (j : ℕ) → j < 64 → is_set found j ≡ true → (k : ℕ) × Meets way from (base + j) (suc k)
  pub here : (k : ℕ) → n ≤ k → k < moves_before way from (far way base)
      → (j : ℕ) × (j < 64) × Meets way from (base + j) (suc k)

-- the next block on the way, if there is one
abbrev pub HasNext : Way → ℕ → Type 0
HasNext Forward index = index < 65536
HasNext Back index = 0 < index

abbrev pub next_block : Way → ℕ → ℕ
next_block Forward index = index + 1
next_block Back index = index - 1
