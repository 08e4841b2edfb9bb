-- The data of a front, and places of cells in it. No public clause cites this module.
use Rattle.std.specs.Prelude.{ℕ, ◌<◌, List}
use Rattle.grid_moves.specs.declared.Cell.{Cell}
use Rattle.grid_moves.specs.Grid.{cell_number}
use Rattle.cost_waves.specs.declared.front.Ahead.{Ahead}
use Rattle.cost_waves.specs.Front.{Front}

-- the front that these lists keep
abbrev pub front_of : List ℕ → List ℕ → Ahead → Front
front_of ranks firsts ahead = record {
  ranks = ranks;
  firsts = firsts;
  next = ahead.next.items;
  after =
      ahead.after.items;
}

-- the cell has a place among so many ranks and so many bytes
pub record Fits (width : ℕ) (to : Cell) (ranked bytes : ℕ) : Type 0 where
  pub column : to.x < width
  pub row : to.y < 4096
  pub rank : cell_number width to < ranked
  pub first : cell_number width to < bytes
