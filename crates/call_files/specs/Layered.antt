-- The grids of a map, as the settings ask.
use Rattle.grid_moves.specs.Layers.{Layers, layers_of}
use Rattle.grid_moves.specs.declared.Corner.{Corner}
use Rattle.map_text.specs.Map.{Map}
use Rattle.word_list.specs.declared.request.Settings.{Settings}

-- the grids of a map under a corner rule, and under that of the settings
abbrev pub grids_under : Corner → Map → Layers
grids_under rule m = layers_of rule m.width m.height m.cells

abbrev pub layers_on : Settings → Map → Layers
layers_on set m = grids_under set.rule m
