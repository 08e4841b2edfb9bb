-- The two grids of a map: its land, and its water as a second layer.
use Rattle.std.specs.Prelude.{◌≡◌, ℕ, Bool, true, false, ◌&&◌, ◌||◌, if◌then◌else◌, refl, List, codes}
use Rattle.grid_moves.specs.declared.Cell.{Cell}
use Rattle.grid_moves.specs.declared.Corner.{Corner}
use Rattle.grid_moves.specs.declared.Corner.TheVariants.{Never}
use Rattle.grid_moves.specs.declared.Ground.{Ground}
use Rattle.grid_moves.specs.declared.Ground.TheVariants.{Blocked, Land, Water}
use Rattle.grid_moves.specs.Grid.{GridData, IsGrid, grid_with, is_free, is_ground, is_inside, layer_of}

-- the two grids of a map
pub record Layers : Type 0 where
  pub land : GridData
  pub water : GridData

-- the land grid and the water grid of a map with these sides and bytes
abbrev pub layers_of : Corner → ℕ → ℕ → List ℕ → Layers
layers_of corner width height bytes = record {
  land = layer_of Land corner width height bytes;
  water = layer_of Water corner width height bytes;
}

-- two grids of one map: they have its sides and one corner rule, and no cell is both land and water
pub record AreLayers (ls : Layers) : Type 0 where
  pub land : IsGrid ls.land
  pub water : IsGrid ls.water
  pub width : ls.water.width ≡ ls.land.width
  pub height : ls.water.height ≡ ls.land.height
  pub corner : ls.water.corner ≡ ls.land.corner
  pub apart : (c : Cell) → (is_free ls.land c && is_free ls.water c) ≡ false

-- the ground of a cell; outside the map it is blocked
abbrev pub ground_at : Layers → Cell → Ground
ground_at ls c = if is_free ls.water c then Water else if is_free ls.land c then Land else Blocked

-- the cell lies on the map
abbrev pub is_on_map : Layers → Cell → Bool
is_on_map ls c = is_inside ls.land c

-- the cell is land or water
abbrev pub is_free_ground : Layers → Cell → Bool
is_free_ground ls c = is_free ls.land c || is_free ls.water c

-- the grid of a query that starts in this cell
abbrev pub query_grid : Layers → Cell → GridData
query_grid ls s = if is_free ls.water s then ls.water else ls.land

-- both cells are free on the grid of a query that starts in the first one
abbrev pub in_one_layer : Layers → Cell → Cell → Bool
in_one_layer ls s t = is_free (query_grid ls s) s && is_free (query_grid ls s) t

-- the layers after an edit: one cell, on the map, is blocked, land or water as asked, and the others stay
abbrev pub layers_with : Layers → Cell → Ground → Layers
layers_with ls c to = record {
  land = grid_with ls.land c (is_ground Land to);
  water = grid_with ls.water c (is_ground Water to);
}

-- a worked row: the map `.WW/.WW`
abbrev pub shore : Layers
shore = layers_of Never 3 2 (codes ".WW.WW")

pub ground_of_the_shore : ground_at shore (record { x = 0; y = 1 }) ≡ Land
ground_of_the_shore = refl

pub water_of_the_shore : ground_at shore (record { x = 2; y = 0 }) ≡ Water
water_of_the_shore = refl

pub nothing_outside : ground_at shore (record { x = 3; y = 0 }) ≡ Blocked
nothing_outside = refl

pub along_the_shore : in_one_layer shore (record { x = 0; y = 0 }) (record { x = 0; y = 1 }) ≡ true
along_the_shore = refl

pub over_water : in_one_layer shore (record { x = 1; y = 0 }) (record { x = 2; y = 1 }) ≡ true
over_water = refl

pub into_the_water : in_one_layer shore (record { x = 0; y = 0 }) (record { x = 1; y = 0 }) ≡ false
into_the_water = refl

pub out_of_the_water : in_one_layer shore (record { x = 1; y = 0 }) (record { x = 0; y = 0 }) ≡ false
out_of_the_water = refl

-- flooded, the upper left cell leaves the land for the water
pub flooded : ground_at (layers_with shore (record { x = 0; y = 0 }) Water) (record { x = 0; y = 0 }) ≡ Water
flooded = refl

pub off_the_land : is_free (layers_with shore (record { x = 0; y = 0 }) Water).land (record { x = 0; y = 0 })
    ≡ false
off_the_land = refl
