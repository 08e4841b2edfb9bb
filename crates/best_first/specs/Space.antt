-- What a contract sees of a `Space`.
use Rattle.std.specs.Prelude.{◌≡◌, Bool, true, false, ℕ, ◌<◌, ◌≤◌, ◌+◌}
use Rattle.grid_moves.specs.declared.Cell.{Cell}
use Rattle.grid_moves.specs.Grid.{cell_number}
use Rattle.best_first.specs.declared.state.Layout.{Layout}
use Rattle.best_first.specs.declared.state.Layout.TheVariants.{ByCell, ByArrival}
use Rattle.best_first.specs.Table.{Table}

-- which states a cell has, the number of places for cells, the nodes of the last search, the width of its
-- map, and for how many offers there is memory at least
pub record SpaceData : Type 0 where
  pub layout : Layout
  pub places : ℕ
  pub width : ℕ
  pub table : Table
  pub spare : ℕ

-- the layout in which a cell has one state, or that in which it has nine
abbrev pub layout_by : Bool → Layout
layout_by true = ByCell
layout_by false = ByArrival

-- there is room for so many records more, where nodes have them
abbrev pub HasRoomFor : Layout → ℕ → ℕ → ℕ → Type 0
HasRoomFor ByCell n len capacity = Unit {0}
HasRoomFor ByArrival n len capacity = len + n ≤ capacity

-- there is memory for so many nodes in all, and where nodes have records for as many of these
pub record HasRoom (layout : Layout) (room nodes spare capacity : ℕ) : Type 0 where
  pub for_nodes : room ≤ nodes + spare
  pub for_records : HasRoomFor layout room 0 capacity

-- of what contracts see, all but the nodes and the room stays
pub record KeepsShape (old new : SpaceData) : Type 0 where
  pub layout : new.layout ≡ old.layout
  pub places : new.places ≡ old.places
  pub width : new.width ≡ old.width

-- the cell lies on a map of this width with so many cells, in one of 4096 rows
pub record IsPlaced (width places : ℕ) (c : Cell) : Type 0 where
  pub column : c.x < width
  pub row : c.y < 4096
  pub within : cell_number width c < places
