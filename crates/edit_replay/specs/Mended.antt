-- How many steps an edit counts, where what is kept beside the grids has to follow it.
use Rattle.std.specs.Prelude.{◌≡◌, ◌≢◌, ℕ, ◌+◌, ◌*◌, ◌≤◌}
use Rattle.grid_moves.specs.Grid.{GridData}
use Rattle.grid_moves.specs.Layers.{Layers}
use Rattle.plus_tables.specs.Tables.{TablesData, AreTablesOf, IsWhole}
use Rattle.table_repair.specs.Counted.{places_differing}
use Rattle.edit_replay.specs.declared.engine.Engine.{Engine}
use Rattle.edit_replay.specs.declared.engine.Engine.TheVariants.{Plain, Jps, Block, Plus}

-- So many refreshes at most make the tables of a grid those of another: none where it is the same grid, else
-- 18 for each row and each column, and one for each entry that differs.
pub data MendsWithin (g h : GridData) (n : ℕ) : Type 0 where
  nothing : h ≡ g → n ≡ 0 → MendsWithin g h n
  repaired : h ≢ g → (old new : TablesData) → IsWhole old → AreTablesOf old g → AreTablesOf new h
      → n ≡ 18 * (h.width + h.height) + places_differing old.entries new.entries → MendsWithin g h n

-- both layers' tables were mended, those of a layer that stays as it was by no refresh
pub record AreMended (before after : Layers) (old new : ℕ) : Type 0 where
  pub land : ℕ
  pub water : ℕ
  pub mends_land : MendsWithin before.land after.land land
  pub mends_water : MendsWithin before.water after.water water
  pub within : new ≤ old + land + water

-- the counter rose as an edit makes it, by the engine: only tables have to follow an edit by steps that count
abbrev pub IsEditCounted : Engine → Layers → Layers → ℕ → ℕ → Type 0
IsEditCounted Plain before after old new = new ≡ old
IsEditCounted (Jps layout) before after old new = new ≡ old
IsEditCounted (Block layout) before after old new = new ≡ old
IsEditCounted (Plus layout) before after old new = AreMended before after old new
