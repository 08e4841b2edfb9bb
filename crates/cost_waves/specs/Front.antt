-- The cells that are known and those that wait, and what one settled cell does to them. No public clause
-- cites
-- this module.
use Rattle.std.specs.Prelude.{ℕ, ◌+◌, ◌^◌, nat_lt, nat_le, nat_eq, ◌&&◌, if◌then◌else◌, List, [], ◌∷◌, ◌++◌}
use Rattle.std.specs.Prelude.{slice_index_or, slice_set, Option, Some, None, bit_or}
use Rattle.grid_moves.specs.declared.Cell.{Cell}
use Rattle.grid_moves.specs.declared.Dir.{Dir}
use Rattle.grid_moves.specs.Grid.{GridData, cell_number}
use Rattle.grid_moves.specs.Move.{dir_number, legal_ahead, dir_cost}
use Rattle.cost_waves.specs.declared.front.Source.{Source}
use Rattle.cost_waves.specs.Rank.{far}
use Rattle.root2_cost.specs.Rank.{rank_of, straight_rank}

-- each cell's rank and its byte of directions, by its number, and the cells that wait for the next two waves
pub record Front : Type 0 where
  pub ranks : List ℕ
  pub firsts : List ℕ
  pub next : List Cell
  pub after : List Cell

-- what a move counts
abbrev pub dir_rank : Dir → ℕ
dir_rank d = rank_of (dir_cost d)

-- the directions with which walks over this cell and on in direction d begin: from the start of a pass, d
abbrev pub first_over : Source → Dir → ℕ
first_over from d = if from.start then 2 ^ dir_number d else from.first

-- the cell waits for the next wave where its new rank is below the limit and its old one was not
abbrev pub next_with : ℕ → ℕ → ℕ → Cell → List Cell → List Cell
next_with limit known rank to cells =
    if nat_lt rank limit && nat_le limit known then cells ++ (to ∷ []) else cells

-- and for the wave after it where its new rank lies there, and its old one lies beyond
abbrev pub after_with : ℕ → ℕ → ℕ → Cell → List Cell → List Cell
after_with limit known rank to cells =
    if nat_le limit rank && nat_le (limit + straight_rank) known then cells ++ (to ∷ []) else cells

-- with a lesser rank a cell has its directions alone; with an equal one it has them besides
unfoldable pub entered : ℕ → ℕ → Cell → ℕ → ℕ → Front → Front
entered at limit to rank first f =
    if nat_lt rank (slice_index_or f.ranks at far) then record {
      ranks = slice_set f.ranks at rank;
      firsts = slice_set f.firsts at first;
      next = next_with limit (slice_index_or f.ranks at far) rank to f.next;
      after = after_with limit (slice_index_or f.ranks at far) rank to f.after;
    } else if nat_eq rank (slice_index_or f.ranks at far) then record {
      ranks = f.ranks;
      firsts = slice_set f.firsts at (bit_or (slice_index_or f.firsts at 0) first);
      next = f.next;
      after = f.after;
    } else f

-- a move to a cell, if there is one
abbrev pub offered : ℕ → ℕ → Source → Dir → Option Cell → Front → Front
offered width limit from d None f = f
offered width limit from d (Some to) f =
    entered (cell_number width to) limit to (from.rank + dir_rank d) (first_over from d) f

-- the legal moves in these directions
unfoldable pub spread : GridData → ℕ → Source → List Dir → Front → Front
spread g limit from [] f = f
spread g limit from (d ∷ dirs) f =
    spread g limit from dirs (offered g.width limit from d (legal_ahead g from.cell d) f)
