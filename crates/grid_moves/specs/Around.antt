-- The columns and rows beside a cell's, and the legal moves around a cell.
use Rattle.std.specs.Prelude.{◌≡◌, ℕ, ◌+◌, ◌<◌, Bool, Option, Some, None, if◌then◌else◌}
use Rattle.grid_moves.specs.declared.Cell.{Cell}
use Rattle.grid_moves.specs.declared.Dir.{Dir}
use Rattle.grid_moves.specs.declared.Dir.TheVariants.{N, NE, E, SE, S, SW, W, NW}
use Rattle.grid_moves.specs.declared.around.Around.{Around}
use Rattle.grid_moves.specs.Grid.{GridData}
use Rattle.grid_moves.specs.Move.{legal_ahead}

-- m is the number before n, or 65535, which is no column and no row of a map, where n is 0
pub record IsBefore (n m : ℕ) : Type 0 where
  pub some : 0 < n → n ≡ m + 1
  pub none : n ≡ 0 → m ≡ 65535

-- the cell, if the move to it is open
abbrev pub if_open : Bool → Cell → Option Cell
if_open b c = if b then Some c else None

-- of the moves around a cell, whether the one in a direction is open
abbrev pub is_open_to : Around → Dir → Bool
is_open_to a N = a.n
is_open_to a NE = a.ne
is_open_to a E = a.e
is_open_to a SE = a.se
is_open_to a S = a.s
is_open_to a SW = a.sw
is_open_to a W = a.w
is_open_to a NW = a.nw

-- where the move in a direction leads
abbrev pub end_of : Around → Cell → Dir → Cell
end_of a c N = record { x = c.x; y = a.up }
end_of a c NE = record { x = a.right; y = a.up }
end_of a c E = record { x = a.right; y = c.y }
end_of a c SE = record { x = a.right; y = a.down }
end_of a c S = record { x = c.x; y = a.down }
end_of a c SW = record { x = a.left; y = a.down }
end_of a c W = record { x = a.left; y = c.y }
end_of a c NW = record { x = a.left; y = a.up }

-- these are the legal moves from the cell
abbrev pub IsAround : GridData → Cell → Around → Type 0
IsAround g c a = (d : Dir) → if_open (is_open_to a d) (end_of a c d) ≡ legal_ahead g c d
