-- How the entries for one direction are made right, from the far end of each line.
use Rattle.std.specs.Prelude.{◌≡◌, ℕ, zero, suc, ◌+◌, ◌≤◌, ◌⊎◌, Bool, true, false, ◌&&◌, ◌||◌, ◌-◌, Option}
use Rattle.std.specs.Prelude.{Some, option_and_then, if◌then◌else◌, nat_le, nat_lt, length, None, not}
use Rattle.std.specs.Prelude.{min, List, [], ◌∷◌}
use Rattle.grid_moves.specs.declared.Cell.{Cell}
use Rattle.grid_moves.specs.declared.Dir.{Dir}
use Rattle.grid_moves.specs.declared.Dir.TheVariants.{NE, E, SE, S, SW}
use Rattle.grid_moves.specs.Grid.{GridData, IsGrid, is_inside}
use Rattle.grid_moves.specs.Move.{ahead, is_dir, opposite}
use Rattle.pruning.specs.declared.turns.Side.{Side}
use Rattle.pruning.specs.Turns.{turn, is_diagonal}
use Rattle.plus_tables.specs.Entry.{table_entry}
use Rattle.plus_tables.specs.Tables.{TablesData, IsWhole, AreSized, AreTablesOf, entry_at}
use Rattle.table_repair.specs.declared.span.Span.{Span}
use Rattle.table_repair.specs.Counted.{places_differing}

-- the entry for the cell and the direction is the grid's
abbrev pub IsRight : GridData → TablesData → Cell → Dir → Type 0
IsRight h t u d = entry_at t u d ≡ table_entry h u d

-- all entries for the direction are
abbrev pub AreRight : GridData → TablesData → Dir → Type 0
AreRight h t d = (u : Cell) → is_inside h u ≡ true → IsRight h t u d

-- all entries for the components of a diagonal direction are
abbrev pub AreBesideRight : GridData → TablesData → Dir → Type 0
AreBesideRight h t d = is_diagonal d ≡ true → (s : Side) → AreRight h t (turn s d)

-- what refreshing the tables' entries for d asks of them
pub record AreReady (h : GridData) (t : TablesData) (d : Dir) : Type 0 where
  pub grid : IsGrid h
  pub sized : AreSized t h
  pub whole : IsWhole t
  pub beside : AreBesideRight h t d

-- the cell so many moves ahead, if there is one
abbrev pub cell_after : Dir → ℕ → Cell → Option Cell
cell_after d zero u = Some u
cell_after d (suc k) u = option_and_then (λ v. cell_after d k v) (ahead d u)

-- the cell behind, if it lies on the map
abbrev pub behind_on : GridData → Dir → Cell → Option Cell
behind_on h d v = option_and_then (λ u. if is_inside h u then Some u else None)
    (ahead (opposite d) v)

-- an entry for d is right where the one at the next cell is, or where there is none, unless it waits to be
-- looked at: where its next cell is one of those that this test tells
pub record FollowBut (h : GridData) (t : TablesData) (d : Dir) (waits : Cell → Bool) : Type 0 where
  pub next : (u v : Cell) → is_inside h u ≡ true → ahead d u ≡ Some v → is_inside h v ≡ true
      → waits v ≡ false → IsRight h t v d → IsRight h t u d
  pub last : (u : Cell) → is_inside h u ≡ true → ((v : Cell) → ahead d u ≡ Some v → is_inside h v ≡ false)
      → IsRight h t u d

-- the entry was made right, at most n moves behind one of these cells
pub record IsMended (h : GridData) (t : TablesData) (d : Dir) (starts : Cell → Bool) (n : ℕ) (u : Cell)
    : Type 0 where
  pub right : IsRight h t u d
  pub moves : ℕ
  pub few : moves ≤ n
  pub start : Cell
  pub starts_there : starts start ≡ true
  pub reaches : cell_after d moves u ≡ Some start

-- what n entries for d that were made right, each on a line behind one of these cells, change
pub record Mends (h : GridData) (d : Dir) (starts : Cell → Bool) (old new : TablesData) (n : ℕ) : Type 0 where
  pub width : new.width ≡ old.width
  pub height : new.height ≡ old.height
  pub corner : new.corner ≡ old.corner
  pub length_kept : length new.entries ≡ length old.entries
  pub others : (u : Cell) (e : Dir) → is_dir e d ≡ false → is_inside h u ≡ true
      → entry_at new u e ≡ entry_at old u e
  pub along : (u : Cell) → is_inside h u ≡ true
      → (entry_at new u d ≡ entry_at old u d) ⊎ IsMended h new d starts n u
  pub count : (r : TablesData) → IsWhole r → AreTablesOf r h
      → places_differing old.entries r.entries ≡ places_differing new.entries r.entries + n

-- the number is one of the span's
abbrev pub is_among : Span → ℕ → Bool
is_among s n = nat_le s.first n && nat_lt n s.end

-- how many there are
abbrev pub span_length : Span → ℕ
span_length s = s.end - s.first

-- the last or the first of them
abbrev pub far_number : Bool → Span → Option ℕ
far_number from_end s =
    if nat_lt s.first s.end then Some (if from_end then s.end - 1 else s.first) else None

-- the span without it
abbrev pub without_far : Bool → Span → Span
without_far from_end s =
    if nat_lt s.first s.end then (if from_end then record { first = s.first; end = s.end - 1 }
    else record { first = s.first + 1; end = s.end }) else s

-- the cell lies in one of these rows and columns
abbrev pub is_in : Span → Span → Cell → Bool
is_in rows columns v = is_among rows v.y && is_among columns v.x

-- one of the tests holds
abbrev pub either : (Cell → Bool) → (Cell → Bool) → Cell → Bool
either one other v = one v || other v

-- the columns rise along the direction, or the rows
abbrev pub goes_right : Dir → Bool
goes_right NE = true
goes_right E = true
goes_right SE = true
goes_right _ = false

abbrev pub goes_down : Dir → Bool
goes_down SE = true
goes_down S = true
goes_down SW = true
goes_down _ = false

-- no cell of the one kind lies ahead of one of the other
abbrev pub NoneAhead : Dir → (Cell → Bool) → (Cell → Bool) → Type 0
NoneAhead d here later = (v w : Cell) (k : ℕ) → here v ≡ true → cell_after d (suc k) v ≡ Some w
    → later w ≡ false

-- The entries for d whose next cell is one of these wait, and others may wait besides, none of which lies
-- ahead: so each of these can be looked at, from the far end.
pub record CanSweep (h : GridData) (t : TablesData) (d : Dir) (here : Cell → Bool) : Type 0 where
  pub later : Cell → Bool
  pub follow : FollowBut h t d (either here later)
  pub none_ahead : NoneAhead d here later

-- and then they wait no more
abbrev pub Sweeps : GridData → Dir → (Cell → Bool) → TablesData → TablesData → Type 0
Sweeps h d here old new = (later : Cell → Bool) → FollowBut h old d (either here later)
    → FollowBut h new d later

-- what refreshing any entries asks of the tables
pub record AreSound (h : GridData) (t : TablesData) : Type 0 where
  pub grid : IsGrid h
  pub sized : AreSized t h
  pub whole : IsWhole t

-- what n entries that were made right, for directions of one kind, change
pub record MendsKind (h : GridData) (kind : Dir → Bool) (starts : Cell → Bool) (old new : TablesData) (n : ℕ)
    : Type 0 where
  pub sound : AreSound h new
  pub others : (u : Cell) (e : Dir) → kind e ≡ false → is_inside h u ≡ true
      → entry_at new u e ≡ entry_at old u e
  pub along : (u : Cell) (e : Dir) → kind e ≡ true → is_inside h u ≡ true
      → (entry_at new u e ≡ entry_at old u e) ⊎ IsMended h new e starts n u
  pub count : (r : TablesData) → IsWhole r → AreTablesOf r h
      → places_differing old.entries r.entries ≡ places_differing new.entries r.entries + n

-- the direction is straight
abbrev pub is_straight : Dir → Bool
is_straight d = not (is_diagonal d)

-- any cell
abbrev pub any_cell : Cell → Bool
any_cell v = true

-- the direction is one of these
abbrev pub is_listed : List Dir → Dir → Bool
is_listed [] d = false
is_listed (e ∷ es) d = is_dir d e || is_listed es d

-- a row or column of so many, and those beside it
abbrev pub span_beside : ℕ → ℕ → Span
span_beside n side = record { first = n - 1; end = min side (n + 2) }

-- the span with so many numbers more before it, or behind it
abbrev pub widened : Bool → Span → ℕ → ℕ → Span
widened before s by side =
    if before then record { first = s.first - by; end = s.end }
    else record { first = s.first; end = min side (s.end + by) }

-- these numbers alone
abbrev pub span_next : Bool → Span → ℕ → ℕ → Span
span_next before s by side =
    if before then record { first = s.first - by; end = s.first }
    else record { first = s.end; end = min side (s.end + by) }

-- For a diagonal direction the entries wait whose next cell lies in the block, or so many moves behind it in
-- its rows or columns.
abbrev pub is_in_reach : GridData → Span → Span → ℕ → Dir → Cell → Bool
is_in_reach h rows columns by d = either
    (is_in rows (widened (goes_right d) columns by h.width))
    (is_in (span_next (goes_down d) rows by h.height) columns)

-- rows and columns of the map, at least one and at most three of each
pub record IsBlock (h : GridData) (rows columns : Span) : Type 0 where
  pub low : rows.end ≤ h.height
  pub narrow : columns.end ≤ h.width
  pub some_row : rows.first + 1 ≤ rows.end
  pub some_column : columns.first + 1 ≤ columns.end
  pub three_rows : rows.end ≤ rows.first + 3
  pub three_columns : columns.end ≤ columns.first + 3
