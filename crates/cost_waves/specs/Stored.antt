-- What waves keep of their last pass, and when it is right.
use Rattle.std.specs.Prelude.{◌≡◌, ℕ, Bool, true, false, List, slice_index_or, Option, None, IsTrue}
use Rattle.std.specs.Prelude.{◌↔◌, refl}
use Rattle.root2_cost.specs.declared.Cost.{Cost}
use Rattle.grid_moves.specs.Bits.{is_set}
use Rattle.grid_moves.specs.declared.Cell.{Cell}
use Rattle.grid_moves.specs.declared.Dir.{Dir}
use Rattle.grid_moves.specs.declared.Dir.TheVariants.{N, SE}
use Rattle.grid_moves.specs.Grid.{GridData, cell_number, is_inside}
use Rattle.grid_moves.specs.Move.{dir_number}
use Rattle.cost_waves.specs.Begin.{IsCostTo, Begins}
use Rattle.cost_waves.specs.Rank.{far, cost_known}

-- the sides of a map, and for each cell, by its number, a rank and a byte of directions
pub record WaveData : Type 0 where
  pub width : ℕ
  pub height : ℕ
  pub ranks : List ℕ
  pub firsts : List ℕ

-- the byte has the direction: the bit of its number, from the lowest, is set
abbrev pub has_dir : ℕ → Dir → Bool
has_dir byte d = is_set byte (dir_number d)

-- the cost that is stored for a cell, if one is
abbrev pub cost_at : WaveData → Cell → Option Cost
cost_at w c = cost_known (slice_index_or w.ranks (cell_number w.width c) far)

-- the byte of directions that is stored for a cell
abbrev pub firsts_at : WaveData → Cell → ℕ
firsts_at w c = slice_index_or w.firsts (cell_number w.width c) 0

-- the direction is stored for a cell
abbrev pub begins_with : WaveData → Cell → Dir → Bool
begins_with w c d = has_dir (firsts_at w c) d

-- what is stored is right, for a pass from s: of each cell of the map what a least walk from s to it costs,
-- or nothing exactly where no walk leads there, and exactly the directions with which some least walk begins
pub record Tells (g : GridData) (s : Cell) (w : WaveData) : Type 0 where
  pub costs : (t : Cell) → is_inside g t ≡ true → IsCostTo g s t (cost_at w t)
  pub firsts : (t : Cell) (d : Dir) → is_inside g t ≡ true → IsTrue (begins_with w t d) ↔ Begins g s t d

-- nothing is stored for any cell
pub record IsBlank (w : WaveData) : Type 0 where
  pub costs : (t : Cell) → cost_at w t ≡ None
  pub firsts : (t : Cell) (d : Dir) → begins_with w t d ≡ false

-- of the byte 9, the directions north and south-east
pub south_east : has_dir 9 SE ≡ true
south_east = refl

pub north : has_dir 9 N ≡ true
north = refl

pub not_north : has_dir 8 N ≡ false
not_north = refl
