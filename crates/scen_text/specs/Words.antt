-- The words of an entry.
use Rattle.std.specs.Prelude.{ℕ, ◌-◌, List, [], length, get_or}
use Rattle.text_line.specs.Places.{Placed}
use Rattle.scen_text.specs.declared.entry.ByteRange.{ByteRange}

-- the fields of an entry, those of the map's name as one range of bytes
pub record Words : Type 0 where
  pub bucket : Placed
  pub name : ByteRange
  pub w : Placed
  pub h : Placed
  pub sx : Placed
  pub sy : Placed
  pub gx : Placed
  pub gy : Placed
  pub listed : Placed

-- no field
abbrev pub nothing : Placed
nothing = record { start = 0; end = 0; bytes = [] }

-- the field so many places before the end; the last field stands one before it
abbrev pub from_end : ℕ → List Placed → Placed
from_end places fields = get_or fields (length fields - places) nothing

-- the words of a line with at least nine fields: the first, the last seven, and what stands between
abbrev pub words_of : List Placed → Words
words_of fields = record {
  bucket = get_or fields 0 nothing;
  name = record { start = (get_or fields 1 nothing).start; end = (from_end 8 fields).end };
  w = from_end 7 fields;
  h = from_end 6 fields;
  sx = from_end 5 fields;
  sy = from_end 4 fields;
  gx = from_end 3 fields;
  gy = from_end 2 fields;
  listed = from_end 1 fields;
}
