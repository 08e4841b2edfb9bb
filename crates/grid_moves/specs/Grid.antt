-- Maps and grids: which cells are free.
-- Bytes after Sturtevant's benchmark format (movingai.com); what each of them stands for is this project's
-- profile.
use Rattle.std.specs.Prelude.{◌≡◌, ℕ, ◌+◌, ◌*◌, ◌/◌, ◌%◌, ◌≤◌, Bool, true, false, nat_lt}
use Rattle.std.specs.Prelude.{if◌then◌else◌, refl, List, [], ◌∷◌, length, slice_index_or, slice_set, map}
use Rattle.std.specs.Prelude.{codes, nat_eq, ◌&&◌, ◌||◌}
use Rattle.grid_moves.specs.declared.Cell.{Cell}
use Rattle.grid_moves.specs.declared.Corner.{Corner}
use Rattle.grid_moves.specs.declared.Corner.TheVariants.{Never}
use Rattle.grid_moves.specs.declared.Ground.{Ground}
use Rattle.grid_moves.specs.declared.Ground.TheVariants.{Blocked, Land, Water}

-- a grid's plain data: its sides, its corner rule, and for each cell, by its number, whether it is free
pub record GridData : Type 0 where
  pub width : ℕ
  pub height : ℕ
  pub corner : Corner
  pub free : List Bool

-- the sides are 1 to 4096
pub record AreSides (width height : ℕ) : Type 0 where
  pub wide : 1 ≤ width
  pub narrow : width ≤ 4096
  pub high : 1 ≤ height
  pub low : height ≤ 4096

-- sides of 1 to 4096, and one entry for each cell
pub record IsGrid (g : GridData) : Type 0 where
  pub sides : AreSides g.width g.height
  pub whole : length g.free ≡ g.height * g.width

-- cells are numbered row by row from the upper left, from 0
abbrev pub cell_number : ℕ → Cell → ℕ
cell_number width c = c.y * width + c.x

-- the cell with this number on a map of this width
abbrev pub cell_numbered : ℕ → ℕ → Cell
cell_numbered width number = record { x = number % width; y = number / width }

-- the cell lies on the map
abbrev pub is_inside : GridData → Cell → Bool
is_inside g c = nat_lt c.x g.width && nat_lt c.y g.height

-- the cell is free; none outside is
abbrev pub is_free : GridData → Cell → Bool
is_free g c = is_inside g c && slice_index_or g.free (cell_number g.width c) false

-- `.`, `G` and `S` are land, `W` is water, and all else is blocked
abbrev pub ground_of : ℕ → Ground
ground_of byte =
    if nat_eq byte 46 || nat_eq byte 71 || nat_eq byte 83 then Land
    else if nat_eq byte 87 then Water
    else Blocked

-- the grounds are one
abbrev pub is_ground : Ground → Ground → Bool
is_ground Blocked Blocked = true
is_ground Land Land = true
is_ground Water Water = true
is_ground _ _ = false

-- the grid of a map with these sides and bytes in which the cells of one ground are free
abbrev pub layer_of : Ground → Corner → ℕ → ℕ → List ℕ → GridData
layer_of kind corner width height bytes = record {
  width = width;
  height = height;
  corner = corner;
  free = map (λ byte. is_ground kind (ground_of byte)) bytes;
}

-- the land grid of a map
abbrev pub grid_of : ℕ → ℕ → List ℕ → Corner → GridData
grid_of width height bytes corner = layer_of Land corner width height bytes

-- the grid after an edit: one cell, on the map, is free or blocked as asked, and the others stay
abbrev pub grid_with : GridData → Cell → Bool → GridData
grid_with g c free = record {
  width = g.width;
  height = g.height;
  corner = g.corner;
  free = slice_set g.free (cell_number g.width c) free;
}

-- there is a byte for each cell of a map of these sides
pub record AreCells (width height : ℕ) (bytes : List ℕ) : Type 0 where
  pub sides : AreSides width height
  pub whole : length bytes ≡ height * width

-- on `TW.`, the land grid has the ground alone, and the water grid the water
pub land_alone : (layer_of Land Never 3 1 (codes "TW.")).free ≡ false ∷ false ∷ true ∷ []
land_alone = refl

pub water_alone : (layer_of Water Never 3 1 (codes "TW.")).free ≡ false ∷ true ∷ false ∷ []
water_alone = refl

-- felling the last tree of `T.T` frees its cell alone
pub tree_felled : (grid_with (grid_of 3 1 (codes "T.T") Never) (record { x = 2; y = 0 }) true).free
    ≡ false ∷ true ∷ true ∷ []
tree_felled = refl
