-- The free cells of a map, land and water.
use Rattle.std.specs.Prelude.{◌≡◌, ℕ, ◌*◌, refl, List, [], ◌∷◌, map, codes}
use Rattle.std.specs.List.{filter, range_with_len}
use Rattle.grid_moves.specs.declared.Cell.{Cell}
use Rattle.grid_moves.specs.declared.Corner.TheVariants.{Never}
use Rattle.grid_moves.specs.Grid.{cell_numbered}
use Rattle.grid_moves.specs.Layers.{Layers, is_free_ground, layers_of}

-- the cells with numbers below this one that are land or water, in the order of their numbers
abbrev pub free_below : Layers → ℕ → List Cell
free_below ls n = filter (is_free_ground ls) (map (cell_numbered ls.land.width) (range_with_len 0 n))

-- all free cells
abbrev pub free_cells : Layers → List Cell
free_cells ls = free_below ls (ls.land.height * ls.land.width)

-- a worked row: the map `.@W/T..`
pub four_of_six : free_cells (layers_of Never 3 2 (codes ".@WT..")) ≡
    record { x = 0; y = 0 } ∷ record { x = 2; y = 0 } ∷ record { x = 1; y = 1 } ∷ record { x = 2; y = 1 } ∷ []
four_of_six = refl
