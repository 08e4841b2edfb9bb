-- What texts are read as, and how their reading may stop.
use Rattle.std.specs.Prelude.{◌≡◌, ℕ, ◌≤◌, ◌^◌, List, [], ◌∷◌, length, Ok, Some, slice_get, true, ◌*◌}
use Rattle.std.specs.Global.{Vec}
use Rattle.map_text.specs.Map.{Map}
use Rattle.map_text.specs.Faults.{map_of, plain}
use Rattle.map_text.specs.declared.map.MapText.{MapText}
use Rattle.script_text.specs.Faults.{script_of}
use Rattle.script_text.specs.declared.command.ScriptCommand.{ScriptCommand}
use Rattle.scen_text.specs.Faults.{scen_of}
use Rattle.scen_text.specs.Lengths.{IsKept}
use Rattle.scen_text.specs.declared.entry.Entry.{Entry}
use Rattle.potential_check.specs.Text.{certificate_of, plain as claimed_by}
use Rattle.potential_check.specs.declared.certificate.Certificate.{Certificate}
use Rattle.grid_moves.specs.Layers.{Layers, layers_of}
use Rattle.walk_judge.specs.Claims.{IsFit}
use Rattle.walk_judge.specs.Walks.{walks_of}
use Rattle.walk_judge.specs.declared.claims.Claimed.{Claimed}
use Rattle.word_list.specs.declared.request.Settings.{Settings}
use Rattle.call_files.specs.Layered.{layers_on}
use Rattle.std.specs.Prelude.{None, ⊤, Result}
use Rattle.io_edge.specs.Causes.{Rose}
use Rattle.io_edge.specs.Known.{Disk, Held}
use Rattle.call_files.specs.Files.{AreAccepted, File, FileRose, HasRefused, IsAccepted, IsRefused}
use Rattle.call_files.specs.Kinds.{first_text, refusal_of, takes}
use Rattle.line_work.specs.Stops.{Stops, EndsOrStops}
use Rattle.call_files.specs.declared.kind.Extent.{Extent}
use Rattle.grid_moves.specs.declared.Corner.{Corner}
use Rattle.plus_tables.specs.Tables.{AreTablesOf}
use Rattle.call_files.specs.declared.kind.TextKind.{TextKind}
use Rattle.call_files.specs.declared.files.Scenario.{Scenario}
use Rattle.call_files.specs.declared.layers.SmallLayers.{SmallLayers}
use Rattle.call_files.specs.declared.tables.MapTables.{MapTables}
use Rattle.line_work.specs.declared.stop.Stop.{Stop}

-- a text was read as this value: the held bytes spell it, and are accepted behind the texts before it
pub record IsRead {X : Type 0} (Spells : List ℕ → X → Type 0) (earlier : List (List ℕ)) (kind : TextKind)
    (held : Held) (value : X) : Type 0 where
  pub text : List ℕ
  pub accepted : IsAccepted earlier kind held text
  pub spelled : Spells text value

-- a reading may stop at a refused text, at a read that failed, as the file's count shows, or for want of
-- memory
abbrev pub read_stops : (List ℕ → Type 0) → ℕ → ℕ → Stops
read_stops Refused faults faults_now =
    record { Refused = Refused; Read = Rose faults faults_now; Write = ⊥; Memory = ⊤ }

-- what is known where the reading of these files stops: the first refused one, or the count of one that there
-- was reason to read
abbrev pub open_stops : Disk → Disk → List File → Stops
open_stops disk disk_now files = record {
  Refused = HasRefused disk.holds files;
  Read = FileRose files disk disk_now;
  Write = ⊥;
  Memory = ⊤;
}

-- nothing is known of the texts before
abbrev pub IsFirst : List (List ℕ) → Type 0
IsFirst earlier = ⊤

-- a file of this kind was read as a value, or the reading stopped, behind all texts of which that is known
abbrev pub Reads : {X : Type 0} → (List (List ℕ) → Type 0) → (List ℕ → X → Type 0) → TextKind → Held → ℕ → ℕ
    → Result X Stop → Type 0
Reads IsBehind Spells kind held faults faults_now result =
    (earlier : List (List ℕ)) → IsBehind earlier → EndsOrStops
    (IsRead Spells earlier kind held)
    (read_stops (IsRefused earlier kind held) faults faults_now) result

-- a text was read as a value that it spells and accepted, or it is refused, behind all texts of which that is
-- known
abbrev pub ReadsText : {X : Type 0} → (List (List ℕ) → Type 0) → (List ℕ → X → Type 0) → TextKind → List ℕ
    → Result X Stop → Type 0
ReadsText IsBehind Spells kind text result = (earlier : List (List ℕ)) → IsBehind earlier → EndsOrStops
    (λ value. (refusal_of kind earlier text ≡ None) × Spells text value)
    (record {
      Refused = λ line. refusal_of kind earlier text ≡ Some line;
      Read = ⊥;
      Write = ⊥;
      Memory = ⊤;
    }) result

-- the text spells this map, which is one of those that are taken
abbrev pub SpellsWithin : Extent → List ℕ → MapText → Type 0
SpellsWithin extent text m = (map_of text ≡ Ok (plain m)) × (takes extent (plain m) ≡ true)

-- the text spells a map, of which this was made
pub record IsMade {X : Type 0} (IsOf : Map → X → Type 0) (text : List ℕ) (made : X) : Type 0 where
  pub map : Map
  pub spelled : map_of text ≡ Ok map
  pub is : IsOf map made

-- the layers of a map under the rule of the settings
abbrev pub AreLayersOf : Settings → Map → Layers → Type 0
AreLayersOf set m ls = ls ≡ layers_on set m

-- both grids have at most 2^14 cells
pub record AreSmall (ls : Layers) : Type 0 where
  pub land : ls.land.height * ls.land.width ≤ 16384
  pub water : ls.water.height * ls.water.width ≤ 16384

-- the layers of a map of at most 2^14 cells
pub record AreSmallLayersOf (set : Settings) (m : Map) (small : SmallLayers) : Type 0 where
  pub layers : AreLayersOf set m small.layers
  pub few : AreSmall small.layers

-- the first of the texts before is that of a map, whose layers under their own corner rule these are
pub record AreBehindMap (ls : Layers) (earlier : List (List ℕ)) : Type 0 where
  pub map : Map
  pub spelled : map_of (first_text earlier) ≡ Ok map
  pub are : ls ≡ layers_of ls.land.corner map.width map.height map.cells

-- the first of the texts before is that of this map
abbrev pub IsBehind : Map → List (List ℕ) → Type 0
IsBehind map earlier = map_of (first_text earlier) ≡ Ok map

-- these are the tables of two layers
pub record AreTablesOn (ls : Layers) (tables : MapTables) : Type 0 where
  pub land : AreTablesOf tables.land ls.land
  pub water : AreTablesOf tables.water ls.water

-- these are the tables of a map's layers under a corner rule
abbrev pub AreMapTables : Corner → Map → MapTables → Type 0
AreMapTables corner map tables = AreTablesOn (layers_of corner map.width map.height map.cells) tables

-- the files hold the texts of a map and, where one is named, of its table file, and this was made of the map
pub record IsMadeOf {X : Type 0} (IsOf : Map → X → Type 0) (holds : List ℕ → Held) (files : List File)
    (made : X)
    : Type 0 where
  pub text : List ℕ
  pub loaded : List (List ℕ)
  pub accepted : AreAccepted holds [] files (text ∷ loaded)
  pub is : IsMade IsOf text made

-- the map and one file more were read as these values: the files hold these texts, the second one accepted
-- behind the first
pub record AreBothRead {X Y : Type 0} (Spells : List ℕ → X → Type 0) (SpellsMore : List ℕ → Y → Type 0)
    (holds : List ℕ → Held) (first second : File) (values : X × Y) : Type 0 where
  pub text : List ℕ
  pub more : List ℕ
  pub accepted : AreAccepted holds [] (first ∷ second ∷ []) (text ∷ more ∷ [])
  pub spelled : Spells text values.0
  pub spelled_more : SpellsMore more values.1

-- each entry has a length that can be judged
abbrev pub AreKept : List Entry → Type 0
AreKept entries = (k : ℕ) (entry : Entry) → slice_get entries k ≡ Some entry → IsKept entry.length

abbrev pub SpellsScript : List ℕ → Vec ScriptCommand → Type 0
SpellsScript text commands = script_of text ≡ Ok commands.items

-- the text spells these entries, and their lengths can be judged; they are no more than bytes
abbrev pub SpellsScen : List ℕ → Vec Entry → Type 0
SpellsScen text entries = (scen_of text ≡ Ok entries.items) × AreKept entries.items
    × (length entries.items ≤ 2 ^ 26)

-- so it does, and it is kept beside them
abbrev pub SpellsScenario : List ℕ → Scenario → Type 0
SpellsScenario text s = SpellsScen text s.entries × (s.text.items ≡ text)

-- the text spells this certificate
abbrev pub SpellsCert : List ℕ → Certificate → Type 0
SpellsCert text c = certificate_of text ≡ Ok (claimed_by c)

-- each claimed walk can be judged
abbrev pub AreFit : List Claimed → Type 0
AreFit walks = (k : ℕ) (claimed : Claimed) → slice_get walks k ≡ Some claimed → IsFit claimed

-- the text tells these walks, one for each of so many entries, and they can be judged
abbrev pub SpellsWalks : ℕ → List ℕ → Vec Claimed → Type 0
SpellsWalks entries text walks =
    (walks_of text entries ≡ Ok walks.items) × AreFit walks.items × (length walks.items ≡ entries)
