-- What holds of each scenario that is written.
use Rattle.std.specs.Prelude.{◌≡◌, ℕ, ◌+◌, ◌^◌, ◌<◌, ◌≤◌, ◌↔◌, List, [], ◌∷◌, ◌++◌, length, slice_get}
use Rattle.std.specs.Prelude.{Some, decimal}
use Rattle.root2_cost.specs.declared.Cost.{Cost}
use Rattle.root2_cost.specs.Length.{eight_places}
use Rattle.scen_text.specs.declared.entry.Entry.{Entry}
use Rattle.scen_text.specs.Names.{IsName, bytes_at}
use Rattle.scen_text.specs.Spelling.{Spells}
use Rattle.scen_lines.specs.declared.line.Problem.{Problem}
use Rattle.scen_lines.specs.declared.line.Listed.{Listed}
use Rattle.scen_lines.specs.Line.{entry_line, listed_of, version_line, IsOfCost}
use Rattle.scen_lines.specs.Naming.{name_of}

-- an entry with the name of its map
pub record Named : Type 0 where
  pub name : List ℕ
  pub listed : Listed

-- the sides of the map and the ends are no longer than a reader takes them
pub record AreShort (p : Problem) : Type 0 where
  pub w : p.w < 10 ^ 9
  pub h : p.h < 10 ^ 9
  pub sx : p.sx < 10 ^ 9
  pub sy : p.sy < 10 ^ 9
  pub gx : p.gx < 10 ^ 9
  pub gy : p.gy < 10 ^ 9

-- the name stands in one line, and no number is longer than a reader takes it
pub record IsReadable (entry : Named) : Type 0 where
  pub name : IsName entry.name
  pub problem : AreShort entry.listed.problem
  pub bucket : entry.listed.bucket < 10 ^ 9
  pub units : entry.listed.units < 10 ^ 16

-- the line of an entry
abbrev pub line_of : Named → List ℕ
line_of entry = entry_line entry.name entry.listed

-- the lines of all entries
abbrev pub lines_of : List Named → List ℕ
lines_of [] = []
lines_of (entry ∷ entries) = line_of entry ++ lines_of entries

-- the first line and the lines of all entries
abbrev pub scenario_of : List Named → List ℕ
scenario_of entries = version_line ++ lines_of entries

-- what the line with this number that begins at this place is read as
abbrev pub entry_at : ℕ → ℕ → Named → Entry
entry_at number place entry = record {
  line = number;
  bucket = entry.listed.bucket;
  name = record {
    start = place + length (decimal entry.listed.bucket) + 1;
    end = place + length (decimal entry.listed.bucket) + 1 + length entry.name;
  };
  w = entry.listed.problem.w;
  h = entry.listed.problem.h;
  sx = entry.listed.problem.sx;
  sy = entry.listed.problem.sy;
  gx = entry.listed.problem.gx;
  gy = entry.listed.problem.gy;
  length = eight_places entry.listed.units;
}

-- what lines from a number and a place on are read as
abbrev pub entries_from : ℕ → ℕ → List Named → List Entry
entries_from number place [] = []
entries_from number place (entry ∷ entries) =
    entry_at number place entry ∷ entries_from (number + 1) (place + length (line_of entry)) entries

-- what a scenario is read as
abbrev pub entries_of : List Named → List Entry
entries_of entries = entries_from 2 10 entries

-- all entries are readable
abbrev pub AreReadable : List Named → Type 0
AreReadable entries = (k : ℕ) (entry : Named) → slice_get entries k ≡ Some entry → IsReadable entry

-- what is written is read as these entries, and as no others
abbrev pub WrittenIsRead : Type 0
WrittenIsRead = (entries : List Named) → AreReadable entries
    → Spells (scenario_of entries) (entries_of entries)

-- and with these names
abbrev pub NamesAreRead : Type 0
NamesAreRead = (entries : List Named) (k : ℕ) (written : Named) (read : Entry)
    → slice_get entries k ≡ Some written → slice_get (entries_of entries) k ≡ Some read
    → bytes_at (scenario_of entries) read.name ≡ written.name

-- the name of a word can stand in an entry
abbrev pub WordsNameMaps : Type 0
WordsNameMaps = (word : List ℕ) → IsName (name_of word)

-- a line has the bucket and the length of a cost exactly where it is the one that is listed of that cost
abbrev pub CostsTellLines : Type 0
CostsTellLines = (cost : Cost) (listed : Listed) → IsOfCost cost listed
    ↔ (listed ≡ listed_of listed.problem cost)

-- at most 2^24 moves of each kind have a bucket and a length that are read
abbrev pub CostsAreReadable : Type 0
CostsAreReadable = (cost : Cost) (entry : Named) → IsOfCost cost entry.listed → cost.a ≤ 2 ^ 24
    → cost.b ≤ 2 ^ 24 → IsName entry.name → AreShort entry.listed.problem → IsReadable entry
