-- Texts that files hold.
use Rattle.std.proofs.Common.{◌≡◌, sym, subst, refl, List, ℕ, true, false, arith}
use Rattle.std.specs.Prelude.{Result, Ok, Err, Some, None}
use Rattle.std.proofs.lemmas.Bool.Decides.{nat_tests}
use Rattle.grid_moves.specs.Layers.{Layers, layers_of}
use Rattle.grid_moves.specs.declared.Corner.{Corner}
use Rattle.map_text.specs.Map.{Map}
use Rattle.word_list.specs.declared.request.Settings.{Settings}
use Rattle.io_edge.specs.Known.{Held}
use Rattle.io_edge.specs.Whole.{IsWhole}
use Rattle.call_files.specs.Files.{faulty}
use Rattle.call_files.specs.FaultLines.{large_line, map_line}
use Rattle.call_files.specs.Reading.{AreBehindMap, AreLayersOf, AreMapTables, AreSmall, AreTablesOn, IsBehind}
use Rattle.call_files.specs.Reading.{Reads, ReadsText, SpellsWithin}
use Rattle.call_files.specs.Kinds.{kind_for, limit_of, refusal_of, takes}
use Rattle.call_files.specs.declared.kind.Extent.{Extent}
use Rattle.call_files.specs.declared.kind.Extent.TheVariants.{Any, Small}
use Rattle.map_text.specs.Faults.{map_of, plain}
use Rattle.map_text.specs.declared.fault.MapFault.{MapFault}
use Rattle.map_text.specs.declared.map.MapText.{MapText}
use Rattle.call_files.specs.declared.kind.TextKind.{TextKind}
use Rattle.call_files.specs.declared.kind.TextKind.TheVariants as kind
use Rattle.call_files.specs.declared.tables.MapTables.{MapTables}
use Rattle.line_work.specs.declared.stop.Stop.{Stop}
use Rattle.line_work.specs.declared.stop.Stop.TheVariants as stop

-- a file whose whole text was read so was itself read so
pub file-read : {X : Type 0} (IsBehind : List (List ℕ) → Type 0) (Spells : List ℕ → X → Type 0)
    (kind : TextKind)
    (held : Held) (text : List ℕ) (faults faults_now : ℕ) (result : Result X Stop)
    → IsWhole held (limit_of kind) text → ReadsText IsBehind Spells kind text result
    → Reads IsBehind Spells kind held faults faults_now result
file-read IsBehind Spells kind held text faults faults_now (Ok value) w r = λ earlier behind.
    let a = r earlier behind in record { text = text; accepted = (w, a.0); spelled = a.1 }
file-read IsBehind Spells kind held text faults faults_now (Err (stop.Text line)) w r = λ earlier behind.
    faulty text w (r earlier behind)
file-read IsBehind Spells kind held text faults faults_now (Err stop.Read) w r = λ earlier behind.
    absurd (r earlier behind)
file-read IsBehind Spells kind held text faults faults_now (Err stop.Write) w r = λ earlier behind.
    absurd (r earlier behind)
file-read IsBehind Spells kind held text faults faults_now (Err stop.Memory) w r = λ earlier behind. tt

-- a map that is taken, one that is not, and a text that spells none
pub map-taken : (extent : Extent) (text : List ℕ) (m : MapText) → map_of text ≡ Ok (plain m)
    → takes extent (plain m) ≡ true → (earlier : List (List ℕ))
    → (refusal_of (kind_for extent) earlier text ≡ None) × SpellsWithin extent text m
map-taken Any text m e t = λ earlier. (rw e refl, (e, t))
map-taken Small text m e t = λ earlier. (rw (e, t) refl, (e, t))

pub map-large : (extent : Extent) (text : List ℕ) (m : MapText) (line : List ℕ) → map_of text ≡ Ok (plain m)
    → takes extent (plain m) ≡ false → line ≡ large_line → (earlier : List (List ℕ))
    → refusal_of (kind_for extent) earlier text ≡ Some line
map-large Any text m line e t l = λ earlier. absurd (cc)
map-large Small text m line e t l = λ earlier. rw (e, t, l) refl

pub map-faulty : (extent : Extent) (text : List ℕ) (fault : MapFault) (line : List ℕ)
    → map_of text ≡ Err fault
    → line ≡ map_line fault → (earlier : List (List ℕ)) → refusal_of (kind_for extent) earlier text
    ≡ Some line
map-faulty Any text fault line e l = λ earlier. rw (e, l) refl
map-faulty Small text fault line e l = λ earlier. rw (e, l) refl

-- the layers of a map of at most 2^14 cells are small
pub small-layers : (set : Settings) (m : Map) (ls : Layers) → AreLayersOf set m ls → takes Small m ≡ true
    → AreSmall ls
small-layers set m ls is few = subst (λ (k : Layers). AreSmall k) (sym is)
    (record { land = grind (arith, nat_tests); water = grind (arith, nat_tests) })

-- tables that were read behind a map's layers were read behind the map
pub tables-read : (corner : Corner) (m : Map) (ls : Layers) (held : Held) (faults faults_now : ℕ)
    (result : Result MapTables Stop) → ls ≡ layers_of corner m.width m.height m.cells
    → Reads (AreBehindMap ls) (λ _. AreTablesOn ls) (kind.Tables ls.land.corner) held faults faults_now result
    → Reads (IsBehind m) (λ _. AreMapTables corner m) (kind.Tables corner) held faults faults_now result
tables-read corner m ls held faults faults_now result are r = λ earlier behind.
    subst (λ (l : Layers). Reads (AreBehindMap l) (λ _. AreTablesOn l) (kind.Tables l.land.corner) held faults
    faults_now
    result) are r earlier (record { map = m; spelled = behind; are = refl })
