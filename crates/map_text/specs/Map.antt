-- Maps: two sides, and a byte of terrain for each cell.
use Rattle.std.specs.Prelude.{◌≡◌, ℕ, ◌*◌, ◌≤◌, Bool, ◌==◌, ◌||◌, IsTrue, List, length}
use Rattle.std.specs.List.{list_all}

-- a map: its sides in cells, and the byte of each cell, row by row from the top, each row from the left
pub record Map : Type 0 where
  pub width : ℕ
  pub height : ℕ
  pub cells : List ℕ

-- the bytes of terrain: `.`, `G`, `S`, `@`, `O`, `T` and `W`
abbrev pub is_terrain : ℕ → Bool
is_terrain byte =
    byte == 46 || byte == 71 || byte == 83 || byte == 64 || byte == 79 || byte == 84 || byte == 87

-- sides of 1 to 4096 and a byte of terrain for each cell
pub record IsMap (width height : ℕ) (cells : List ℕ) : Type 0 where
  pub wide : 1 ≤ width
  pub narrow : width ≤ 4096
  pub high : 1 ≤ height
  pub low : height ≤ 4096
  pub whole : length cells ≡ height * width
  pub terrain : IsTrue (list_all is_terrain cells)
