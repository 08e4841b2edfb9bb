-- The labels so far and the cells that wait, and what one cell does to them. No public clause cites this
-- module.
use Rattle.std.specs.Prelude.{ℕ, ◌<◌, nat_eq, if◌then◌else◌, List, [], ◌∷◌, ◌++◌, slice_index, slice_set}
use Rattle.std.specs.Prelude.{Option, Some, None}
use Rattle.grid_moves.specs.declared.Cell.{Cell}
use Rattle.grid_moves.specs.declared.Dir.{Dir}
use Rattle.grid_moves.specs.Grid.{GridData, cell_number}
use Rattle.grid_moves.specs.Move.{legal_ahead}

-- each cell's label, by its number, and the labelled cells whose moves are still to be looked at
pub record Flood : Type 0 where
  pub labels : List ℕ
  pub waiting : List Cell

abbrev pub flood_of : List ℕ → List Cell → Flood
flood_of labels waiting = record { labels = labels; waiting = waiting }

-- a cell without a label gets this one, and waits
unfoldable pub reached : ℕ → ℕ → Cell → Flood → Flood
reached place label to f =
    if nat_eq (slice_index f.labels place) 0
    then flood_of (slice_set f.labels place label) (f.waiting ++ (to ∷ [])) else f

-- the cell that a move leads to, if there is one
abbrev pub reached_by : ℕ → ℕ → Option Cell → Flood → Flood
reached_by width label None f = f
reached_by width label (Some to) f = reached (cell_number width to) label to f

-- the cells that the legal moves in these directions lead to
unfoldable pub spread : GridData → ℕ → Cell → List Dir → Flood → Flood
spread g label from [] f = f
spread g label from (d ∷ dirs) f =
    spread g label from dirs (reached_by g.width label (legal_ahead g from d) f)

-- the cell has a place among so many labels
pub record Fits (width : ℕ) (to : Cell) (labels : ℕ) : Type 0 where
  pub column : to.x < width
  pub row : to.y < 4096
  pub place : cell_number width to < labels
