-- That the grids on which queries are answered are layers of one map.
use Rattle.std.specs.Prelude.{◌≡◌, ℕ, List, Ok}
use Rattle.grid_moves.specs.Grid.{AreSides}
use Rattle.grid_moves.specs.Layers.{AreLayers, Layers}
use Rattle.map_text.specs.Faults.{map_of}
use Rattle.map_text.specs.Map.{IsMap, Map}
use Rattle.map_maker.specs.Making.{made_map}
use Rattle.edit_replay.specs.Edited.{Edit, edited}
use Rattle.word_list.specs.declared.request.Settings.{Settings}
use Rattle.call_files.specs.Layered.{layers_on}

-- the grids of a map, as the settings ask, are layers of one map; so are those of a map that a text spells
-- and of one that a seed makes; and what edits leave of layers of one map are such layers
pub record LayersStay : Type 0 where
  pub of_map : (set : Settings) (m : Map) → IsMap m.width m.height m.cells → AreLayers (layers_on set m)
  pub of_text : (set : Settings) (text : List ℕ) (m : Map) → map_of text ≡ Ok m → AreLayers (layers_on set m)
  pub of_seed : (set : Settings) (seed width height percent : ℕ) → AreSides width height
      → AreLayers (layers_on set (made_map seed width height percent))
  pub after_edits : (ls : Layers) (edits : List Edit) → AreLayers ls → AreLayers (edited ls edits)
