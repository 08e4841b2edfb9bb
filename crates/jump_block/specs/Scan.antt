-- Scans along a line, over as many blocks as it takes.
use Rattle.std.specs.Prelude.{◌≡◌, ℕ, ◌+◌, ◌*◌, ◌/◌, ◌<◌, ◌≤◌, Bool, true, false, nat_lt, min}
use Rattle.std.specs.Prelude.{if◌then◌else◌, Option, Some, None}
use Rattle.bit_grid.specs.Bits.{LineData, Shows}
use Rattle.jump_block.specs.declared.block.Halt.{Halt}
use Rattle.grid_moves.specs.declared.Corner.{Corner}
use Rattle.jump_block.specs.declared.word.Way.{Way}
use Rattle.bit_grid.specs.declared.lines.ThreeWords.{ThreeWords}
use Rattle.jump_block.specs.Trail.{Trail, Halts, IsClear, begun, trail_on}
use Rattle.jump_block.specs.declared.block.Block.{Block}
use Rattle.jump_block.specs.Word.{IsBlockOf, edge_before, far, moves_before}
use Rattle.jump_block.specs.Seek.{HasPassed}

-- a scan starts at this place of this line, at a free cell of the map that the lines show: few lines of few
-- blocks
pub record IsStart (l : LineData) (free : ℕ → ℕ → Bool) (line from : ℕ) : Type 0 where
  pub count : ℕ
  pub positions : ℕ
  pub shows : Shows l count positions free
  pub below : 1 ≤ line
  pub above : line ≤ count
  pub starts : free line from ≡ true
  pub first : free line 0 ≡ false
  pub beyond : (p : ℕ) → positions < p → free line p ≡ false
  pub few : l.lines < 65536
  pub short : l.blocks ≤ 128

-- how many blocks of three lines a scan over so many moves reads at most
abbrev pub most_lanes : ℕ → ℕ
most_lanes moves = 3 * (moves / 512 + 2)

-- the nearer of the goal, so many moves on, or 0 where it is not ahead, and a number of moves
abbrev pub nearer : ℕ → ℕ → ℕ
nearer to_goal moves = if nat_lt 0 to_goal then min to_goal moves else moves

-- a scan finds where it halts, or else that nothing halts it before the goal
abbrev pub Finds : Corner → Trail → ℕ → Option Halt → Type 0
Finds rule t to_goal (Some h) = Halts rule t h.passed h.marked
Finds rule t to_goal None = (0 < to_goal) × IsClear t to_goal

-- how far a scan looks
abbrev pub looked : ℕ → Option Halt → ℕ
looked to_goal (Some h) = nearer to_goal h.passed
looked to_goal None = to_goal

-- what a scan from there finds on the way
abbrev pub FindsFrom : LineData → Corner → Way → ℕ → ℕ → ℕ → Option Halt → Type 0
FindsFrom l rule way to_goal line place found = (free : ℕ → ℕ → Bool) → IsStart l free line place
    → Finds rule (begun rule (trail_on free way line place)) to_goal found

-- this is the block of the line, with those of the lines beside it, in which a scan starts
abbrev pub HasFirst : LineData → Way → ℕ → ℕ → Block → Type 0
HasFirst l way line place b = (free : ℕ → ℕ → Bool) → IsStart l free line place
    → IsBlockOf (trail_on free way line place) way place (place / 512 * 512) 0 b

-- nothing halts a scan from there in the word in which it starts
abbrev pub ClearFrom : LineData → Corner → Way → ℕ → ℕ → Type 0
ClearFrom l rule way line place = (free : ℕ → ℕ → Bool) → IsStart l free line place
    → IsClear (begun rule (trail_on free way line place))
    (moves_before way place (far way (place / 64 * 64)))

-- nor in the block in which it starts, and these are the last words that it passes there
abbrev pub PassedFrom : LineData → Corner → Way → ℕ → ℕ → ThreeWords → Type 0
PassedFrom l rule way line place last = (free : ℕ → ℕ → Bool) → IsStart l free line place
    → HasPassed (begun rule (trail_on free way line place)) way place
    (edge_before way (place / 512 * 512) 8) last

-- where a scan halts tells whether it shows a mark there, and how far the steps have risen at most
abbrev pub MeetsMark : Corner → Trail → ℕ → ℕ → Bool → Type 0
MeetsMark rule t old new marked =
    (passed : ℕ) × Halts rule t passed marked × (new ≤ old + most_lanes passed)

abbrev pub MeetsFrom : LineData → Corner → Way → ℕ → ℕ → ℕ → ℕ → Bool → Type 0
MeetsFrom l rule way line place old new marked = (free : ℕ → ℕ → Bool) → IsStart l free line place
    → MeetsMark rule (begun rule (trail_on free way line place)) old new marked
