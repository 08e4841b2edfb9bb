-- What a session keeps for its searches. No public clause cites this module.
use Rattle.std.specs.Prelude.{⊤, Bool, if◌then◌else◌}
use Rattle.best_first.specs.declared.state.Layout.{Layout}
use Rattle.grid_moves.specs.Grid.{GridData}
use Rattle.grid_moves.specs.Layers.{AreLayers, Layers}
use Rattle.bit_grid.specs.Bits.{AreBitsOf}
use Rattle.plus_tables.specs.Tables.{AreTablesOf}
use Rattle.plain_search.specs.Room.{HasRoom}
use Rattle.search_core.specs.Jumping.{HasPlaces}
use Rattle.edit_replay.specs.declared.kept.Finder.{Finder}
use Rattle.edit_replay.specs.declared.kept.Finder.TheVariants as finder
use Rattle.edit_replay.specs.declared.kept.Kept.{Kept}
use Rattle.edit_replay.specs.declared.kept.Kept.TheVariants as kept
use Rattle.edit_replay.specs.declared.engine.Engine.{Engine}
use Rattle.edit_replay.specs.declared.engine.Engine.TheVariants.{Plain, Jps, Block, Plus}
use Rattle.edit_replay.specs.declared.parts.Parts.{Parts}
use Rattle.edit_replay.specs.Session.{SessionData}

-- the engine that finds its jumps so, with these states
abbrev pub engine_with : Finder → Layout → Engine
engine_with finder.Cells layout = Jps layout
engine_with (finder.Bits bits) layout = Block layout
engine_with (finder.Tables tables) layout = Plus layout

-- the engine that keeps this
abbrev pub engine_of : Kept → Engine
engine_of (kept.Plain places) = Plain
engine_of (kept.Jumps finder space) = engine_with finder space.layout

-- jumps on these grids are found so
abbrev pub IsFinderOf : Layers → Finder → Type 0
IsFinderOf ls finder.Cells = ⊤
IsFinderOf ls (finder.Bits bits) = AreBitsOf bits.land ls.land × AreBitsOf bits.water ls.water
IsFinderOf ls (finder.Tables tables) = AreTablesOf tables.land ls.land × AreTablesOf tables.water ls.water

-- jumps on the grid of water, or on that of land, are found so
abbrev pub IsFinderOn : Bool → GridData → Finder → Type 0
IsFinderOn is_water g finder.Cells = ⊤
IsFinderOn is_water g (finder.Bits bits) = AreBitsOf (if is_water then bits.water else bits.land) g
IsFinderOn is_water g (finder.Tables tables) = AreTablesOf (if is_water then tables.water else tables.land) g

-- the memory has a place for each state of the grids, and jumps on them are found
abbrev pub Serves : Layers → Kept → Type 0
Serves ls (kept.Plain places) = HasRoom ls.land places
Serves ls (kept.Jumps finder space) = HasPlaces ls.land space × IsFinderOf ls finder

-- the grids are two layers of one map, and what is kept serves them
pub record AreKept (parts : Parts) : Type 0 where
  pub layers : AreLayers parts.layers
  pub serves : Serves parts.layers parts.kept

-- the parts of a session stand for this
abbrev pub stands_for : Parts → SessionData
stands_for parts = record { engine = engine_of parts.kept; layers = parts.layers }
