-- How each line of a text breaks the grammar of scenarios, and the reading of a text up to the first line
-- that does.
use Rattle.std.specs.Prelude.{ℕ, zero, suc, Bool, false, nat_lt, ◌||◌, ◌&&◌, if◌then◌else◌, List, [], ◌∷◌}
use Rattle.std.specs.Prelude.{length, drop, slice_get, codes, unwrap_or, Option, Some, None, Result, Ok, Err}
use Rattle.std.specs.Prelude.{Vec}
use Rattle.std.specs.Option.{option_or, is_some}
use Rattle.std.specs.Str.{bytes_eq}
use Rattle.std.specs.declared.alloc.Global.{Global}
use Rattle.text_line.specs.Fields.{fields_of}
use Rattle.text_line.specs.Numbers.{number_of}
use Rattle.text_line.specs.Reading as lines
use Rattle.text_line.specs.Reading.{reading, read_lines, fault_on}
use Rattle.text_line.specs.Places.{Placed, LineAt, fields_from, lines_at}
use Rattle.scen_text.specs.declared.fault.ScenFault.{ScenFault}
use Rattle.scen_text.specs.declared.fault.ScenFault.TheVariants.{Version, Fields, Number, Length, NoMemory}
use Rattle.scen_text.specs.declared.entry.Entry.{Entry}
use Rattle.scen_text.specs.Lengths.{length_of}
use Rattle.scen_text.specs.Words.{Words, words_of}

-- whether these fields name version 1
abbrev pub names_version : List (List ℕ) → Bool
names_version (word ∷ version ∷ []) =
    bytes_eq word (codes "version") && (bytes_eq version (codes "1") || bytes_eq version (codes "1.0"))
names_version _ = false

-- whether a line is there and names version 1
abbrev pub has_version : Option LineAt → Bool
has_version None = false
has_version (Some line) = names_version (fields_of line.bytes)

-- C1: the first line is absent or has other fields
abbrev pub version_fault : Option LineAt → Option ScenFault
version_fault line = if has_version line then None else Some (Version 1)

-- C3: a word is no number
abbrev pub number_fault : ℕ → List ℕ → Option ScenFault
number_fault line word = if is_some (number_of word) then None else Some (Number line)

-- C4: a word is no length
abbrev pub length_fault : ℕ → List ℕ → Option ScenFault
length_fault line word = if is_some (length_of word) then None else Some (Length line)

-- the first of these faults that there is
abbrev pub first_of : List (Option ScenFault) → Option ScenFault
first_of [] = None
first_of (fault ∷ faults) = option_or fault (first_of faults)

-- C3 of one of the seven numbers, or else C4
abbrev pub words_fault : ℕ → Words → Option ScenFault
words_fault line words = first_of (
    number_fault line words.bucket.bytes
    ∷ number_fault line words.w.bytes
    ∷ number_fault line words.h.bytes
    ∷ number_fault line words.sx.bytes
    ∷ number_fault line words.sy.bytes
    ∷ number_fault line words.gx.bytes
    ∷ number_fault line words.gy.bytes
    ∷ length_fault line words.listed.bytes
    ∷ [])

-- the number that a word spells, 0 where it spells none
abbrev pub number_or_zero : List ℕ → ℕ
number_or_zero word = unwrap_or (number_of word) 0

-- the entry that words spell
abbrev pub entry_in : ℕ → Words → Entry
entry_in line words = record {
  line = line;
  bucket = number_or_zero words.bucket.bytes;
  name = words.name;
  w = number_or_zero words.w.bytes;
  h = number_or_zero words.h.bytes;
  sx = number_or_zero words.sx.bytes;
  sy = number_or_zero words.sy.bytes;
  gx = number_or_zero words.gx.bytes;
  gy = number_or_zero words.gy.bytes;
  length = unwrap_or (length_of words.listed.bytes) (record { digits = 0; places = 0 });
}

-- what the fields of a line after the first are read as: nothing where there is none, an entry, or a fault;
-- C2: they are fewer than nine
abbrev pub fields_read : ℕ → List Placed → Result (Option Entry) ScenFault
fields_read line [] = Ok None
fields_read line (bucket ∷ fields) =
    if nat_lt (length (bucket ∷ fields)) 9 then Err (Fields line)
    else reading (words_fault line (words_of (bucket ∷ fields)))
    (Some (entry_in line (words_of (bucket ∷ fields))))

-- what a line after the first is read as
abbrev pub line_read : LineAt → Result (Option Entry) ScenFault
line_read line = fields_read line.number (fields_from line.place line.bytes)

-- what all lines are read as
abbrev pub all_read : List LineAt → Result (List Entry) ScenFault
all_read lines = if has_version (slice_get lines 0) then read_lines line_read (drop 1 lines)
    else Err (Version 1)

-- what a text is read as: its entries, or the fault of its first broken line
unfoldable pub scen_of : List ℕ → Result (List Entry) ScenFault
scen_of text = all_read (lines_at text)

-- how the line at a place, counted from 0, breaks the grammar, where it does
abbrev pub fault_at : List LineAt → ℕ → Option ScenFault
fault_at lines zero = version_fault (slice_get lines 0)
fault_at lines (suc place) = fault_on line_read (drop 1 lines) place

-- the first line that breaks the grammar breaks it so
abbrev pub BreaksFirst : List LineAt → ScenFault → Type 0
BreaksFirst all fault = lines.BreaksFirst (fault_at all) fault

-- an answer tells a reading; for want of memory it tells nothing
abbrev pub Tells : Result (Vec Entry Global) ScenFault → Result (List Entry) ScenFault → Type 0
Tells answer read = lines.Tells NoMemory (λ entries. entries.items) answer read
