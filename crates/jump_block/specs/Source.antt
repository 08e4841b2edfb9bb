-- Jumps over bits: the grids for which they stand, where a scan on one halts, and how many cells it covers.
use Rattle.std.specs.Prelude.{◌≡◌, ⊤, IsTrue, ℕ, ◌+◌, ◌<◌, ◌≤◌, Bool, true, false, if◌then◌else◌}
use Rattle.std.specs.Prelude.{◌&&◌, ◌||◌, nat_lt, Option, Some, None, is_some, codes, refl}
use Rattle.std.specs.Borrow.{Bor}
use Rattle.grid_moves.specs.declared.Cell.{Cell}
use Rattle.grid_moves.specs.declared.Corner.{Corner}
use Rattle.grid_moves.specs.declared.Corner.TheVariants.{One, Both}
use Rattle.grid_moves.specs.declared.Dir.{Dir}
use Rattle.grid_moves.specs.declared.Dir.TheVariants.{N, NE, E, SE, S, SW, W, NW}
use Rattle.grid_moves.specs.Grid.{GridData, grid_of, is_free}
use Rattle.grid_moves.specs.Move.{is_same}
use Rattle.bit_grid.specs.declared.lines.ThreeWords.{ThreeWords}
use Rattle.bit_grid.specs.Bits.{BitData, LineData, AreBitsOf, is_free_from_one}
use Rattle.pruning.specs.First.{first_stop, run_length}
use Rattle.pruning.specs.Marked.{is_forced}
use Rattle.jump_plain.specs.declared.scan.Reach.{Reach}
use Rattle.jump_plain.specs.Reach as reach
use Rattle.jump_plain.specs.Reach.{mark_ahead}
use Rattle.jump_block.specs.declared.block.Halt.{Halt}
use Rattle.jump_block.specs.declared.straight.Start.{Start}
use Rattle.jump_block.specs.declared.straight.Axis.{Axis}
use Rattle.jump_block.specs.declared.straight.Axis.TheVariants.{Row, Column}
use Rattle.jump_block.specs.declared.straight.Bits.{Bits}
use Rattle.jump_block.specs.declared.word.Way.{Way}
use Rattle.jump_block.specs.declared.word.Way.TheVariants.{Forward, Back}
use Rattle.jump_block.specs.Near.{AreNearStart}
use Rattle.jump_block.specs.Scan.{Finds, IsStart, looked, most_lanes}
use Rattle.jump_block.specs.Trail.{Trail, begun, shows_mark, trail_on}

-- what jumps read is of the bits of this grid
abbrev pub AreItsBits : Bits → GridData → Type 0
AreItsBits b g = AreBitsOf (record {
  width = g.width;
  height = g.height;
  corner = b.corner;
  rows = b.rows.now;
  columns = b.columns.now;
}) g

-- on some grid whose bits these are, at a free cell of it; and on each
abbrev pub OnSome : Bits → Cell → Type 0
OnSome b at = (g : GridData) × AreItsBits b g × (is_free g at ≡ true)

abbrev pub OnEach : Bits → Cell → (GridData → Type 0) → Type 0
OnEach b at P = (g : GridData) → AreItsBits b g → is_free g at ≡ true → P g

-- on some grid whose bits these are, for a jump from one free cell to another; and on each
abbrev pub JumpsOnSome : BitData → Cell → Cell → Type 0
JumpsOnSome bits at goal = (g : GridData) × AreBitsOf bits g × IsTrue (is_free g at) × IsTrue (is_free g goal)

abbrev pub JumpsOnEach : BitData → Cell → Cell → (GridData → Type 0) → Type 0
JumpsOnEach bits at goal P =
    (g : GridData) → AreBitsOf bits g → IsTrue (is_free g at) → IsTrue (is_free g goal) → P g

-- to the east or the south a scan goes forward, and to the west or the north back
abbrev pub is_forward : Dir → Bool
is_forward E = true
is_forward S = true
is_forward _ = false

abbrev pub is_back : Dir → Bool
is_back W = true
is_back N = true
is_back _ = false

-- the direction of a way along a row or a column
abbrev pub dir_on : Axis → Way → Dir
dir_on Row Forward = E
dir_on Row Back = W
dir_on Column Forward = S
dir_on Column Back = N

-- the diagonal to the east or the west and to the south or the north
abbrev pub diagonal_of : Bool → Bool → Dir
diagonal_of true false = NE
diagonal_of true true = SE
diagonal_of false true = SW
diagonal_of false false = NW

-- which way a diagonal leads along the row, and along the column; and its straight parts
abbrev pub way_on : Axis → Dir → Way
way_on Row NE = Forward
way_on Row SE = Forward
way_on Column SE = Forward
way_on Column SW = Forward
way_on axis d = Back

abbrev pub part_on : Axis → Dir → Dir
part_on axis d = dir_on axis (way_on axis d)

-- whether a number lies ahead of another one, on the way
abbrev pub is_ahead : Way → ℕ → ℕ → Bool
is_ahead Forward from to = nat_lt from to
is_ahead Back from to = nat_lt to from

-- a diagonal leads to where the goal lies
abbrev pub is_toward : Dir → Cell → Cell → Bool
is_toward d u goal = is_ahead (way_on Row d) u.x goal.x && is_ahead (way_on Column d) u.y goal.y

-- the goal is not at a cell of a diagonal, nor does a component lead to it from there
pub record IsAside (d : Dir) (u goal : Cell) : Type 0 where
  pub off : (axis : Axis) → reach.moves_to (part_on axis d) u goal ≡ 0
  pub apart : is_same u goal ≡ false

-- cells by the row or the column that is the line
abbrev pub by_line : GridData → Axis → ℕ → ℕ → Bool
by_line g Row line place = is_free_from_one g place line
by_line g Column line place = is_free_from_one g line place

-- where a cell stands on its line
abbrev pub line_of : Axis → Cell → ℕ
line_of Row x = x.y + 1
line_of Column x = x.x + 1

abbrev pub place_of : Axis → Cell → ℕ
place_of Row x = x.x + 1
place_of Column x = x.y + 1

abbrev pub lines_on : Bits → Axis → Bor LineData
lines_on b Row = b.rows
lines_on b Column = b.columns

abbrev pub start_of : Bits → Axis → Cell → Start
start_of b axis x = record { lines = lines_on b axis; line = line_of axis x; place = place_of axis x }

-- the words around a cell
abbrev pub IsNear : Bits → Axis → Cell → ThreeWords → Type 0
IsNear b axis x w = AreNearStart (lines_on b axis).now (line_of axis x) (place_of axis x) w

-- what a straight scan from x passes
abbrev pub trail_of : GridData → Axis → Way → Cell → Trail
trail_of g axis way x = trail_on (by_line g axis) way (line_of axis x) (place_of axis x)

-- on `..@/.@.` a scan to the east halts where its run ends, and shows a mark only where two blocked cells may
-- be passed between
pub shown_at_the_end : shows_mark Both (trail_of (grid_of 3 2 (codes "..@.@.") Both) Row Forward
    (record { x = 0; y = 0 })) 1 ≡ true
shown_at_the_end = refl

pub none_shown_at_the_end : shows_mark One (trail_of (grid_of 3 2 (codes "..@.@.") One) Row Forward
    (record { x = 0; y = 0 })) 1 ≡ false
none_shown_at_the_end = refl

-- how far a scan reaches that halts there
abbrev pub reach_of_halt : Corner → Halt → Reach
reach_of_halt rule h =
    if h.marked then record { moves = h.passed + mark_ahead rule; marked = true }
    else record { moves = h.passed; marked = false }

-- the first stop, given where the scan halts, or else that the goal is met before
abbrev pub stop_of : Corner → Option Halt → ℕ → Option ℕ
stop_of rule (Some h) to_goal = reach.stop_of (reach_of_halt rule h) to_goal
stop_of rule None to_goal = Some to_goal

-- the stop that follows from where a scan halts, the goal lying so many moves ahead, or 0, and the steps of
-- such a scan at most
abbrev pub StopsAt : Corner → Trail → ℕ → ℕ → ℕ → Option ℕ → Type 0
StopsAt rule t to_goal old new stop = (found : Option Halt) × Finds rule t to_goal found
    × (stop ≡ stop_of rule found to_goal) × (new ≤ old + most_lanes (looked to_goal found))

-- the same of a scan from this place of this line, on each map that the lines show
abbrev pub StopsFrom : LineData → Corner → Way → ℕ → ℕ → ℕ → ℕ → ℕ → Option ℕ → Type 0
StopsFrom l rule way to_goal line place old new stop = (free : ℕ → ℕ → Bool) → IsStart l free line place
    → StopsAt rule (begun rule (trail_on free way line place)) to_goal old new stop

-- whether a diagonal jump stops at a cell
abbrev pub stops_at : GridData → Cell → Dir → Cell → Bool
stops_at g goal d x = is_same x goal || is_forced g x d || is_some (first_stop g goal x (part_on Row d))
    || is_some (first_stop g goal x (part_on Column d))

-- so few moves that one more can be counted
abbrev pub HasFew : Option Halt → Type 0
HasFew (Some h) = h.passed < 65535
HasFew None = ⊤

-- how many cells a straight scan covers: up to the stop, or to the end of the legal run and one more
abbrev pub scanned : GridData → Cell → Dir → Option ℕ → ℕ
scanned g x d (Some k) = k
scanned g x d None = run_length g x d + 1

-- a straight jump stops there first, and reads so many blocks at most
abbrev pub Stops : GridData → Cell → Cell → Dir → ℕ → ℕ → Option ℕ → Type 0
Stops g goal x d old new stop =
    (stop ≡ first_stop g goal x d) × (new ≤ old + most_lanes (scanned g x d stop))

-- it does so for each goal to which it does not lead; or whether it stops
abbrev pub StopsAside : GridData → Cell → Dir → ℕ → ℕ → Option ℕ → Type 0
StopsAside g x d old new stop = (goal : Cell) → reach.moves_to d x goal ≡ 0 → Stops g goal x d old new stop

abbrev pub FindsAside : GridData → Cell → Dir → ℕ → ℕ → Bool → Type 0
FindsAside g x d old new found = (goal : Cell) → reach.moves_to d x goal ≡ 0
    → (stop : Option ℕ) × Stops g goal x d old new stop × (found ≡ is_some stop)
