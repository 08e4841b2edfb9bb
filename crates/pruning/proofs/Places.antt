-- Places: cells, and what lies outside the map. A direction is a vector between places.
use Rattle.std.specs.Prelude.{ℤ, pos, negsuc, ◌+ℤ◌}
use Rattle.grid_moves.specs.declared.Dir.{Dir}
use Rattle.grid_moves.specs.declared.Dir.TheVariants.{N, NE, E, SE, S, SW, W, NW}

-- a column and a row, which may be negative
pub record Place : Type 0 where
  pub x : ℤ
  pub y : ℤ

-- the columns that a move goes
abbrev pub columns : Dir → ℤ
columns N = pos 0
columns NE = pos 1
columns E = pos 1
columns SE = pos 1
columns S = pos 0
columns SW = negsuc 0
columns W = negsuc 0
columns NW = negsuc 0

-- the rows that a move goes, downwards
abbrev pub rows : Dir → ℤ
rows N = negsuc 0
rows NE = negsuc 0
rows E = pos 0
rows SE = pos 1
rows S = pos 1
rows SW = pos 1
rows W = pos 0
rows NW = negsuc 0

abbrev pub move : Dir → Place → Place
move d p = record { x = p.x +ℤ columns d; y = p.y +ℤ rows d }
