-- The table file of a map.
use Rattle.std.specs.Prelude.{ℕ, List}
use Rattle.grid_moves.specs.declared.Corner.{Corner}
use Rattle.grid_moves.specs.declared.Ground.TheVariants.{Land, Water}
use Rattle.grid_moves.specs.Grid.{layer_of}
use Rattle.map_text.specs.Map.{Map}
use Rattle.table_file.specs.Encoding.{encoding}

-- the encoding of the tables of a map's two grids under a corner rule
abbrev pub tables_text : Corner → Map → List ℕ
tables_text corner m = encoding corner (layer_of Land corner m.width m.height m.cells)
    (layer_of Water corner m.width m.height m.cells)
