-- What is kept beside the grids follows an edit.
use Rattle.std.proofs.Common.{◌≡◌, ◌≢◌, refl, true, false, ℕ, ◌+◌, ◌*◌, ◌≤◌, Bool, arith, ap, sym, ◌∙◌}
use Rattle.std.specs.Prelude.{if◌then◌else◌}
use Rattle.best_first.specs.Space.{SpaceData}
use Rattle.bit_grid.specs.Bits.{AreBitsOf, BitData}
use Rattle.grid_moves.specs.declared.Cell.{Cell}
use Rattle.grid_moves.specs.Grid.{GridData, grid_with, is_free, is_inside}
use Rattle.grid_moves.specs.Layers.{Layers}
use Rattle.plus_tables.specs.Tables.{TablesData, AreTablesOf, IsWhole}
use Rattle.table_repair.specs.Counted.{places_differing}
use Rattle.edit_replay.specs.Kept.{IsFinderOf, IsFinderOn, Serves, engine_of}
use Rattle.edit_replay.proofs.Edits.{set_back}
use Rattle.edit_replay.specs.Mended.{AreMended, IsEditCounted, MendsWithin, repaired}
use Rattle.edit_replay.specs.declared.kept.Both.{Both}
use Rattle.edit_replay.specs.declared.kept.Finder.{Finder}
use Rattle.edit_replay.specs.declared.kept.Finder.TheVariants.{Cells, Bits, Tables}
use Rattle.edit_replay.specs.declared.kept.Kept.{Kept}
use Rattle.edit_replay.specs.declared.kept.Kept.TheVariants.{Jumps}

-- where jumps are found by bits, these are the grids'
pub found_by_bits : (ls : Layers) (kept : Kept) (finder : Finder) (bits : Both BitData)
    (space : SpaceData)
    → kept ≡ Jumps finder space → finder ≡ Bits bits → Serves ls kept
    → AreBitsOf bits.land ls.land × AreBitsOf bits.water ls.water
found_by_bits ls kept finder bits space is found serves =
    let all = rw (is, found) at serves in
    all.1

-- the tables of both grids were mended
pub mended_both : (kept : Kept) (tables : Both TablesData) (space : SpaceData) (before after : Layers)
    (old new : ℕ)
    → kept ≡ Jumps (Tables tables) space → AreMended before after old new
    → IsEditCounted (engine_of kept) before after old new
mended_both kept tables space before after old new is mended = rw is mended

-- what finds jumps on both grids finds them on that of a ground
pub finder_on : (is_water : Bool) (ls : Layers) (finder : Finder) → IsFinderOf ls finder
    → IsFinderOn is_water (if is_water then ls.water else ls.land) finder
finder_on true ls Cells are = tt
finder_on false ls Cells are = tt
finder_on true ls (Bits bits) are = are.1
finder_on false ls (Bits bits) are = are.0
finder_on true ls (Tables tables) are = are.1
finder_on false ls (Tables tables) are = are.0

-- tables were mended
pub tables_follow : (old new : TablesData) (g h : GridData) → h ≢ g → (changed steps steps_now : ℕ)
    → IsWhole old
    → AreTablesOf old g → AreTablesOf new h → changed ≡ places_differing old.entries new.entries
    → steps_now ≤ steps + 18 * (h.width + h.height) + changed
    → (n : ℕ) × MendsWithin g h n × (steps_now ≤ steps + n)
tables_follow old new g h changes changed steps steps_now whole of_old of_new e within = (
  18 * (h.width + h.height) + places_differing old.entries new.entries,
  repaired changes old new whole of_old of_new refl,
  (omega arith),
)

-- a grid that was edited, with the cell as it was before
pub before_edit : (g : GridData) {h : GridData} (c : Cell) (free was : Bool) → is_inside g c ≡ true
    → was ≡ is_free g c → h ≡ grid_with g c free → grid_with h c was ≡ g
before_edit g c free was inside e f =
    ap (λ (k : GridData). grid_with k c was) f ∙ set_back g c free was inside (sym e)
