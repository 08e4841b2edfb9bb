-- Moves that rise by more than their cost, over heights of cells that a list gives.
use Rattle.std.specs.Prelude.{◌≡◌, ℕ, ◌+◌, ◌*◌, ◌≤◌, Bool, true, IsTrue, Option, Some, None, if◌then◌else◌}
use Rattle.std.specs.Prelude.{List, [], ◌∷◌, map, min, ℤ, pos, ◌+ℤ◌}
use Rattle.std.specs.List.{list_all}
use Rattle.std.specs.Option.{option_or}
use Rattle.std.specs.Int.Signed.{lt_z}
use Rattle.root2_cost.specs.Rank.{rank_of}
use Rattle.grid_moves.specs.declared.Cell.{Cell}
use Rattle.grid_moves.specs.declared.Dir.{Dir}
use Rattle.grid_moves.specs.declared.Dir.TheVariants.{N, NE, E, SE, S, SW, W, NW}
use Rattle.grid_moves.specs.Grid.{GridData, IsGrid, cell_number}
use Rattle.grid_moves.specs.Move.{is_same, legal_ahead, move_cost}
use Rattle.grid_moves.specs.Around.{IsBefore}
use Rattle.potential_check.specs.declared.heights.Heights.{Heights}
use Rattle.potential_check.specs.declared.rising.Column.{Column}
use Rattle.potential_check.specs.declared.rising.Rows.{Rows}
use Rattle.potential_check.specs.declared.rising.Hills.{Hills}
use Rattle.potential_check.specs.Certificate.{are_listed, ascend_from, lies_inside}
use Rattle.potential_check.specs.Heights.{entries, floor, are_low, first_height, rest_after}

-- the height of a cell
abbrev pub height_of : (Cell → ℤ) → List (Cell × ℤ) → Cell → ℤ
height_of floor [] c = floor c
height_of floor (entry ∷ entries) c = if is_same entry.0 c then entry.1 else height_of floor entries c

-- a move of this cost from a height to another rises by more
abbrev pub is_steep : ℤ → ℕ → ℤ → Bool
is_steep from cost to = lt_z (from +ℤ pos cost) to

-- from u to v the height rises by more than the move's cost
abbrev pub climbs : (Cell → ℤ) → Cell → Cell → Bool
climbs height u v = is_steep (height u) (rank_of (move_cost u v)) (height v)

-- the cells of entries
abbrev pub cells_in : List (Cell × ℤ) → List Cell
cells_in entries = map (λ entry. entry.0) entries

-- the height of a cell of the hills
abbrev pub height_at : Hills → Cell → ℤ
height_at hills c = height_of (floor hills.heights) (entries hills.heights) c

-- a grid, and a list whose cells lie inside and ascend
pub record AreHills (hills : Hills) : Type 0 where
  pub grid : IsGrid hills.grid.now
  pub listed : are_listed hills.grid.now.width hills.grid.now.height (cells_in (entries hills.heights)) ≡ true
  pub low : IsTrue (are_low hills.heights)

-- these are the heights of the hills from number n on: the entries lie inside and ascend from it on
pub record StandAt (hills : Hills) (n : ℕ) (heights : Heights) : Type 0 where
  pub inside : list_all (lies_inside hills.grid.now.width hills.grid.now.height)
      (cells_in (entries heights)) ≡ true
  pub ascend : ascend_from hills.grid.now.width n (cells_in (entries heights)) ≡ true
  pub same : (c : Cell) → n ≤ cell_number hills.grid.now.width c
      → height_of (floor heights) (entries heights) c ≡ height_at hills c
  pub floor_is : floor heights ≡ floor hills.heights
  pub low : IsTrue (are_low heights)

-- those from a column of a row on
abbrev pub Reach : Hills → ℕ → ℕ → Heights → Type 0
Reach hills row column heights =
    StandAt hills (row * hills.grid.now.width + min column hills.grid.now.width) heights

-- three rows are reached, the middle one of which is y
pub record RowsReach (hills : Hills) (y column : ℕ) (rows : Rows) : Type 0 where
  pub above : (up : ℕ) → IsBefore y up → Reach hills up column rows.above
  pub here : Reach hills y column rows.here
  pub below : Reach hills (y + 1) column rows.below

-- one cell's height was taken
pub record Takes (old : Heights) (c : Cell) (height : ℤ) (new : Heights) : Type 0 where
  pub is : height ≡ first_height (floor old) (entries old) c
  pub rest : entries new ≡ rest_after (entries old) c
  pub floor_is : floor new ≡ floor old
  pub low : IsTrue (are_low new)

-- the heights of column x, in the rows around row y
pub record IsColumn (hills : Hills) (x y : ℕ) (column : Column) : Type 0 where
  pub above : (up : ℕ) → IsBefore y up → column.above ≡ height_at hills (record { x = x; y = up })
  pub here : column.here ≡ height_at hills (record { x = x; y = y })
  pub below : column.below ≡ height_at hills (record { x = x; y = y + 1 })

-- the height towards each direction, of the columns to the left, in the middle and to the right
abbrev pub towards : Column → Column → Column → Dir → ℤ
towards left middle right N = middle.above
towards left middle right NE = right.above
towards left middle right E = right.here
towards left middle right SE = right.below
towards left middle right S = middle.below
towards left middle right SW = left.below
towards left middle right W = left.here
towards left middle right NW = left.above

-- the cell ahead, if the move to it is legal and steep
abbrev pub steep_move : Cell → ℤ → ℤ → Option Cell → Option Cell
steep_move u from to None = None
steep_move u from to (Some v) = if is_steep from (rank_of (move_cost u v)) to then Some v else None

-- the first cell ahead, in these directions, to which a legal move is steep
abbrev pub first_steep : GridData → Cell → ℤ → (Dir → ℤ) → List Dir → Option Cell
first_steep g u from to [] = None
first_steep g u from to (d ∷ dirs) =
    option_or (steep_move u from (to d) (legal_ahead g u d)) (first_steep g u from to dirs)
