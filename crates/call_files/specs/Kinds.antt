-- The kinds of texts that a request reads.
use Rattle.std.specs.Prelude.{ℕ, ◌^◌, List, [], ◌∷◌, length, codes, Result, Ok, Err, Option, Some, None, ◌*◌}
use Rattle.std.specs.Prelude.{nat_le, Bool, true, if◌then◌else◌}
use Rattle.std.specs.Option.{option_map}
use Rattle.grid_moves.specs.declared.Corner.{Corner}
use Rattle.grid_moves.specs.declared.Ground.TheVariants.{Land, Water}
use Rattle.grid_moves.specs.Grid.{layer_of}
use Rattle.map_text.specs.Faults.{map_of}
use Rattle.map_text.specs.Map as maps
use Rattle.map_text.specs.declared.fault.MapFault.{MapFault}
use Rattle.script_text.specs.Faults.{script_of}
use Rattle.scen_text.specs.Faults.{scen_of}
use Rattle.potential_check.specs.Text.{certificate_of}
use Rattle.scen_text.specs.declared.entry.Entry.{Entry}
use Rattle.scen_text.specs.declared.fault.ScenFault.{ScenFault}
use Rattle.table_file.specs.Faults.{table_fault_of}
use Rattle.walk_judge.specs.Walks.{walks_of}
use Rattle.word_list.specs.declared.request.Pick.{Pick}
use Rattle.word_list.specs.Settings.{is_for_small_maps}
use Rattle.call_files.specs.FaultLines.{cert_line, map_line, script_line, scen_line, walks_line, large_line}
use Rattle.call_files.specs.FaultLines.{tables_line}
use Rattle.call_files.specs.declared.kind.TextKind.{TextKind}
use Rattle.call_files.specs.declared.kind.TextKind.TheVariants.{Map, Script, Scen, Cert, Walks, SmallMap}
use Rattle.call_files.specs.declared.kind.TextKind.TheVariants.{Tables}
use Rattle.call_files.specs.declared.kind.Extent.{Extent}
use Rattle.call_files.specs.declared.kind.Extent.TheVariants.{Any, Small}

-- the word of a kind in fault lines
abbrev pub kind_word : TextKind → List ℕ
kind_word Map = codes "map"
kind_word SmallMap = codes "map"
kind_word Script = codes "script"
kind_word Scen = codes "scen"
kind_word Cert = codes "cert"
kind_word Walks = codes "walks"
kind_word (Tables corner) = codes "tables"

-- the longest text of a kind, in bytes
abbrev pub limit_of : TextKind → ℕ
limit_of Map = 2 ^ 26
limit_of SmallMap = 2 ^ 26
limit_of Script = 2 ^ 26
limit_of Scen = 2 ^ 26
limit_of Cert = 2 ^ 30
limit_of Walks = 2 ^ 30
limit_of (Tables corner) = 2 ^ 30

-- the line of a text that is read as a fault
abbrev pub fault_in : {V F : Type 0} → (F → List ℕ) → Result V F → Option (List ℕ)
fault_in line_of (Ok value) = None
fault_in line_of (Err fault) = Some (line_of fault)

-- how many entries a scenario has, none where it is refused
abbrev pub count_in : Result (List Entry) ScenFault → ℕ
count_in (Ok entries) = length entries
count_in (Err fault) = 0

-- how many entries the scenario has that stands second among the texts before
abbrev pub entries_in : List (List ℕ) → ℕ
entries_in (map ∷ scen ∷ others) = count_in (scen_of scen)
entries_in others = 0

-- the kind of the maps that a call takes
abbrev pub kind_for : Extent → TextKind
kind_for Any = Map
kind_for Small = SmallMap

-- the maps that the picked engine takes
abbrev pub extent_for : Pick → Extent
extent_for pick = if is_for_small_maps pick then Small else Any

-- whether a map is one of them: the small ones have at most 2^14 cells
abbrev pub takes : Extent → maps.Map → Bool
takes Any m = true
takes Small m = nat_le (m.height * m.width) (2 ^ 14)

-- the line of a map that is read as a fault, or that has more than 2^14 cells
abbrev pub small_refusal : Result maps.Map MapFault → Option (List ℕ)
small_refusal (Ok m) = if takes Small m then None else Some large_line
small_refusal (Err fault) = Some (map_line fault)

-- the first of the texts
abbrev pub first_text : List (List ℕ) → List ℕ
first_text [] = []
first_text (text ∷ others) = text

-- the line of a text that is not the encoding of the tables of the map's two grids under a corner rule
abbrev pub tables_refusal : Corner → Result maps.Map MapFault → List ℕ → Option (List ℕ)
tables_refusal corner (Ok m) text = option_map tables_line
    (table_fault_of (layer_of Land corner m.width m.height m.cells)
    (layer_of Water corner m.width m.height m.cells) text)
tables_refusal corner (Err fault) text = None

-- the line with which a text is refused behind the texts before it, if it is
abbrev pub refusal_of : TextKind → List (List ℕ) → List ℕ → Option (List ℕ)
refusal_of Map earlier text = fault_in map_line (map_of text)
refusal_of SmallMap earlier text = small_refusal (map_of text)
refusal_of Script earlier text = fault_in script_line (script_of text)
refusal_of Scen earlier text = fault_in scen_line (scen_of text)
refusal_of Cert earlier text = fault_in cert_line (certificate_of text)
refusal_of (Tables corner) earlier text = tables_refusal corner (map_of (first_text earlier)) text
refusal_of Walks earlier text = fault_in walks_line (walks_of text (entries_in earlier))
