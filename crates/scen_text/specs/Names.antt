-- The names of maps, as entries have them.
use Rattle.std.specs.Prelude.{◌≡◌, ◌≢◌, ℕ, ◌-◌, ◌<◌, ◌≤◌, false, List, length, get_or, take, drop}
use Rattle.std.specs.Prelude.{slice_get, Some}
use Rattle.text_line.specs.Fields.{is_blank_byte}
use Rattle.scen_text.specs.declared.entry.ByteRange.{ByteRange}
use Rattle.scen_text.specs.declared.entry.Entry.{Entry}
use Rattle.scen_text.specs.Spelling.{Spells}

-- the bytes of a text in a range
abbrev pub bytes_at : List ℕ → ByteRange → List ℕ
bytes_at text range = take (range.end - range.start) (drop range.start text)

-- bytes of one line that begin with the first byte of a field and end with the last byte of one
pub record IsName (name : List ℕ) : Type 0 where
  pub some : 0 < length name
  pub first : is_blank_byte (get_or name 0 0) ≡ false
  pub last : is_blank_byte (get_or name (length name - 1) 0) ≡ false
  pub one_line : (k : ℕ) → k < length name → get_or name k 0 ≢ 10

-- a name stands in this range of the text
pub record NameStands (text : List ℕ) (range : ByteRange) : Type 0 where
  pub order : range.start ≤ range.end
  pub inside : range.end ≤ length text
  pub is : IsName (bytes_at text range)

-- the name of each entry that a text spells stands in the text
abbrev pub NamesStand : Type 0
NamesStand = (text : List ℕ) (entries : List Entry) → Spells text entries
    → (k : ℕ) (entry : Entry) → slice_get entries k ≡ Some entry → NameStands text entry.name
