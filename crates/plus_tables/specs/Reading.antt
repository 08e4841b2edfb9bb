-- What jumps read off entries.
use Rattle.std.specs.Prelude.{◌≡◌, ⊤, ℕ, zero, suc, ◌+◌, ◌-◌, ℤ, pos, negsuc, Bool, true, false, ◌&&◌, not}
use Rattle.std.specs.Prelude.{◌*◌, nat_lt, nat_le, nat_eq, Option, Some, None, min, List, filter}
use Rattle.std.specs.Prelude.{if◌then◌else◌}
use Rattle.grid_moves.specs.declared.Cell.{Cell}
use Rattle.grid_moves.specs.declared.Corner.{Corner}
use Rattle.grid_moves.specs.declared.Corner.TheVariants.{Never, Both}
use Rattle.grid_moves.specs.declared.Dir.{Dir}
use Rattle.grid_moves.specs.declared.Dir.TheVariants.{N, NE, E, SE, S, SW, W, NW}
use Rattle.grid_moves.specs.Move.{is_dir, opposite, all_dirs, cell_after, may_cut}
use Rattle.grid_moves.specs.Ring.{ring_by}
use Rattle.pruning.specs.declared.Arrival.{Arrival}
use Rattle.pruning.specs.declared.Arrival.TheVariants.{Start, By}
use Rattle.pruning.specs.declared.turns.Side.TheVariants.{Right, Left}
use Rattle.pruning.specs.Turns.{quarter, rear, is_diagonal}
use Rattle.pruning.specs.Ring.{is_allowed_on}
use Rattle.jump_plain.specs.Reach.{moves_to}
use Rattle.plus_tables.specs.declared.turns.Sight.{Sight}
use Rattle.plus_tables.specs.Tables.{TablesData, is_on}

-- the mark that an entry tells of
abbrev pub mark_of : ℤ → Option ℕ
mark_of (pos zero) = None
mark_of (pos (suc k)) = Some (suc k)
mark_of (negsuc n) = None

-- the run has so many moves, from 1, and no mark on them
abbrev pub is_clear : ℤ → ℕ → Bool
is_clear (pos n) k = nat_lt k n
is_clear (negsuc n) k = nat_le k (suc n)

-- the move is legal: every entry but 0 tells of one
abbrev pub is_move : ℤ → Bool
is_move (pos zero) = false
is_move (pos (suc k)) = true
is_move (negsuc n) = true

-- how many columns lie between, where d leads from the one towards the other; else 0
abbrev pub columns_to : Dir → ℕ → ℕ → ℕ
columns_to N from to = 0
columns_to NE from to = to - from
columns_to E from to = to - from
columns_to SE from to = to - from
columns_to S from to = 0
columns_to SW from to = from - to
columns_to W from to = from - to
columns_to NW from to = from - to

-- and how many rows
abbrev pub rows_to : Dir → ℕ → ℕ → ℕ
rows_to N from to = from - to
rows_to NE from to = from - to
rows_to E from to = 0
rows_to SE from to = to - from
rows_to S from to = to - from
rows_to SW from to = to - from
rows_to W from to = 0
rows_to NW from to = from - to

-- the component of a diagonal that leads along a row, and the one that leads along a column
abbrev pub row_part : Dir → Dir
row_part NE = E
row_part SE = E
row_part SW = W
row_part NW = W
row_part d = d

abbrev pub column_part : Dir → Dir
column_part NE = N
column_part SE = S
column_part SW = S
column_part NW = N
column_part d = d

-- from a cell in the goal's row or column, which is so many columns and rows on from where a diagonal jump
-- began, the goal is there, or on the run in the component
abbrev pub sees_goal : (Cell → Dir → ℤ) → Dir → Cell → ℕ → ℕ → Bool
sees_goal entry d v columns rows =
    if nat_eq columns rows then true
    else if nat_lt rows columns then is_clear (entry v (row_part d)) (columns - rows)
    else is_clear (entry v (column_part d)) (rows - columns)

-- the stop of a jump, given the entry at its cell, and after how many moves, and whether, it comes to the
-- goal or sees it
abbrev pub stop_by : ℤ → ℕ → Bool → Option ℕ
stop_by entry near sees = if nat_lt 0 near && is_clear entry near && sees then Some near else mark_of entry

-- a diagonal jump meets the goal's row or column after so many moves
abbrev pub near_to : Dir → Cell → Cell → ℕ
near_to d u goal = min (columns_to d u.x goal.x) (rows_to d u.y goal.y)

-- the stop of a diagonal jump
abbrev pub diagonal_by : (Cell → Dir → ℤ) → Cell → Dir → Cell → Option ℕ
diagonal_by entry u d goal = stop_by (entry u d) (near_to d u goal)
    (sees_goal entry d (cell_after d (near_to d u goal) u) (columns_to d u.x goal.x) (rows_to d u.y goal.y))

-- the stop of a jump
abbrev pub stop_read : (Cell → Dir → ℤ) → Cell → Dir → Cell → Option ℕ
stop_read entry u d goal =
    if is_diagonal d then diagonal_by entry u d goal else stop_by (entry u d) (moves_to d u goal) true

-- on which side of a number another one lies: 0 where it is less, 1 where they are the same, 2 where it is
-- greater
abbrev pub side_of : ℕ → ℕ → ℕ
side_of from to = if nat_lt from to then 2 else if nat_lt to from then 0 else 1

-- three times the side to which the rows of a direction lead, and the side to which its columns lead
abbrev pub sides_ahead : Dir → ℕ
sides_ahead N = 1
sides_ahead NE = 2
sides_ahead E = 5
sides_ahead SE = 8
sides_ahead S = 7
sides_ahead SW = 6
sides_ahead W = 3
sides_ahead NW = 0

-- the direction leads to where the goal lies
abbrev pub is_aimed : Cell → Dir → Cell → Bool
is_aimed u d goal = nat_eq (sides_ahead d) (side_of u.y goal.y * 3 + side_of u.x goal.x)

-- Which cells around count as free for the rule: those to which a move is legal, as entries tell. Where no
-- corner is cut, the walls that count after a straight move stand behind: beside the cell before, whose
-- entries tell.
abbrev pub seen_past : Cell → Dir → Dir → Sight
seen_past at d e =
    if is_dir e (rear Right d) then record { from = cell_after (opposite d) 1 at; dir = quarter Right d }
    else if is_dir e (rear Left d) then record { from = cell_after (opposite d) 1 at; dir = quarter Left d }
    else record { from = at; dir = e }

abbrev pub free_past : (Cell → Dir → ℤ) → Cell → Dir → Dir → Bool
free_past entry at d e = is_move (entry (seen_past at d e).from (seen_past at d e).dir)

-- no corner is cut, and the move was straight
abbrev pub asks_behind : Corner → Arrival → Bool
asks_behind corner Start = false
asks_behind corner (By d) = not (may_cut corner) && not (is_diagonal d)

abbrev pub free_read : Corner → (Cell → Dir → ℤ) → Cell → Arrival → Dir → Bool
free_read corner entry at Start e = is_move (entry at e)
free_read corner entry at (By d) e =
    if asks_behind corner (By d) then free_past entry at d e else is_move (entry at e)

-- A move that entries tell of is legal. So where a corner may be cut nothing more is asked of the cells
-- beside it, and what is allowed is read as under the rule that asks nothing of them.
abbrev pub read_rule : Corner → Corner
read_rule corner = if may_cut corner then Both else Never

-- the allowed directions, by entries
abbrev pub allowed_by : Corner → (Cell → Dir → ℤ) → Cell → Arrival → List Dir
allowed_by corner entry at by =
    filter (is_allowed_on (read_rule corner) (ring_by (free_read corner entry at by)) by) all_dirs

-- a cell from which a straight move leads here is on the map
abbrev pub IsBeforeOn : TablesData → Cell → Arrival → Type 0
IsBeforeOn t at Start = ⊤
IsBeforeOn t at (By d) = is_on t (cell_after (opposite d) 1 at) ≡ true
