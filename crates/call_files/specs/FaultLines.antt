-- The lines of refused words and texts.
use Rattle.std.specs.Prelude.{ℕ, List, ◌++◌, codes, decimal}
use Rattle.grid_moves.specs.declared.Ground.{Ground}
use Rattle.grid_moves.specs.declared.Ground.TheVariants.{Blocked, Land, Water}
use Rattle.map_text.specs.declared.fault.MapFault.{MapFault}
use Rattle.map_text.specs.declared.fault.MapFault.TheVariants as map
use Rattle.scen_text.specs.declared.fault.ScenFault.{ScenFault}
use Rattle.scen_text.specs.declared.fault.ScenFault.TheVariants as scen
use Rattle.script_text.specs.declared.fault.ScriptFault.{ScriptFault}
use Rattle.script_text.specs.declared.fault.ScriptFault.TheVariants as script
use Rattle.potential_check.specs.declared.fault.CertFault.{CertFault}
use Rattle.potential_check.specs.declared.fault.CertFault.TheVariants as cert
use Rattle.table_file.specs.declared.fault.TableFault.{TableFault}
use Rattle.table_file.specs.declared.fault.TableFault.TheVariants as tables
use Rattle.walk_judge.specs.declared.fault.WalkFault.{WalkFault}
use Rattle.walk_judge.specs.declared.fault.WalkFault.TheVariants as walks
use Rattle.cell_lines.specs.Cells.{dir_text}

-- the line of a refused list of words
abbrev pub word_line : ℕ → List ℕ
word_line number = codes "jps: word " ++ decimal number ++ codes "\n"

-- the line of a text of this kind that is too long
abbrev pub long_line : List ℕ → List ℕ
long_line kind = codes "jps: " ++ kind ++ codes " long\n"

-- the line of a map of more cells than a call takes
abbrev pub large_line : List ℕ
large_line = codes "jps: map large\n"

-- a fault by its name, in this line of a text of this kind
abbrev pub fault_line : List ℕ → List ℕ → ℕ → List ℕ
fault_line kind name number =
    codes "jps: " ++ kind ++ codes " " ++ name ++ codes " line " ++ decimal number ++ codes "\n"

-- what stands in place of a fault's line for want of memory, which is no fault of a text
abbrev no_fault : List ℕ
no_fault = codes "jps: memory\n"

-- the line of a map that is refused
abbrev pub map_line : MapFault → List ℕ
map_line (map.Header number) = fault_line (codes "map") (codes "M1") number
map_line (map.Side number) = fault_line (codes "map") (codes "M2") number
map_line (map.Short number) = fault_line (codes "map") (codes "M3") number
map_line (map.Missing number) = fault_line (codes "map") (codes "M4") number
map_line (map.Byte number column) =
    codes "jps: map M5 line " ++ decimal number ++ codes " column " ++ decimal column ++ codes "\n"
map_line (map.After number) = fault_line (codes "map") (codes "M6") number
map_line map.NoMemory = no_fault

-- the line of a scenario that is refused
abbrev pub scen_line : ScenFault → List ℕ
scen_line (scen.Version number) = fault_line (codes "scen") (codes "C1") number
scen_line (scen.Fields number) = fault_line (codes "scen") (codes "C2") number
scen_line (scen.Number number) = fault_line (codes "scen") (codes "C3") number
scen_line (scen.Length number) = fault_line (codes "scen") (codes "C4") number
scen_line scen.NoMemory = no_fault

-- the line of a script that is refused
abbrev pub script_line : ScriptFault → List ℕ
script_line (script.Line number) = fault_line (codes "script") (codes "T1") number
script_line (script.Long number) = fault_line (codes "script") (codes "T2") number
script_line script.NoMemory = no_fault

-- the line of a certificate's text that is refused
abbrev pub cert_line : CertFault → List ℕ
cert_line (cert.Line number) = fault_line (codes "cert") (codes "P1") number
cert_line (cert.Order number) = fault_line (codes "cert") (codes "P2") number
cert_line cert.NoMemory = no_fault

-- the name of a grid
abbrev pub layer_text : Ground → List ℕ
layer_text Land = codes "land"
layer_text Water = codes "water"
layer_text Blocked = codes "blocked"

-- the line of a table file that is refused
abbrev pub tables_line : TableFault → List ℕ
tables_line tables.Head = codes "jps: tables F1\n"
tables_line tables.Length = codes "jps: tables F2\n"
tables_line (tables.Entry layer cell dir) =
    codes "jps: tables F3 " ++ layer_text layer ++ codes " " ++ decimal cell.x ++ codes "," ++ decimal cell.y
    ++ codes " " ++ dir_text dir ++ codes "\n"
tables_line tables.NoMemory = no_fault

-- the line of walks that are refused
abbrev pub walks_line : WalkFault → List ℕ
walks_line (walks.Line number) = fault_line (codes "walks") (codes "K1") number
walks_line (walks.Count number) = fault_line (codes "walks") (codes "K2") number
walks_line walks.NoMemory = no_fault
