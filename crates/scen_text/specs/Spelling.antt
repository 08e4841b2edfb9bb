-- What the text of a scenario looks like.
use Rattle.std.specs.Prelude.{◌≡◌, ℕ, List, [], ◌∷◌, ◌++◌, ◌⊎◌, Some, codes}
use Rattle.text_line.specs.Fields.{fields_of}
use Rattle.text_line.specs.Numbers.{number_of}
use Rattle.text_line.specs.Reading.{SpellInOrder}
use Rattle.text_line.specs.Places.{Placed, LineAt, fields_from, lines_at}
use Rattle.scen_text.specs.declared.entry.ByteRange.{ByteRange}
use Rattle.scen_text.specs.declared.entry.Entry.{Entry}
use Rattle.scen_text.specs.Lengths.{length_of}
use Rattle.scen_text.specs.Words.{Words}

-- the bytes from the first byte of the first of these fields to the last byte of the last
pub record Spans (fields : List Placed) (range : ByteRange) : Type 0 where
  pub first : Placed
  pub later : List Placed
  pub begins : fields ≡ first ∷ later
  pub start : range.start ≡ first.start
  pub earlier : List Placed
  pub last : Placed
  pub ends : fields ≡ earlier ++ last ∷ []
  pub end : range.end ≡ last.end

-- a bucket, the fields of a name, and seven fields
pub record HasWords (fields : List Placed) (words : Words) : Type 0 where
  pub name : List Placed
  pub are : fields ≡ words.bucket ∷ (name ++ words.w ∷ words.h ∷ words.sx ∷ words.sy ∷ words.gx ∷ words.gy ∷
      words.listed ∷ [])
  pub spans : Spans name words.name

-- a line spells an entry: six of its words are numbers and so is the bucket, and the last is a length
pub record IsEntry (line : LineAt) (entry : Entry) : Type 0 where
  pub words : Words
  pub has : HasWords (fields_from line.place line.bytes) words
  pub number : entry.line ≡ line.number
  pub bucket : number_of words.bucket.bytes ≡ Some entry.bucket
  pub name : entry.name ≡ words.name
  pub w : number_of words.w.bytes ≡ Some entry.w
  pub h : number_of words.h.bytes ≡ Some entry.h
  pub sx : number_of words.sx.bytes ≡ Some entry.sx
  pub sy : number_of words.sy.bytes ≡ Some entry.sy
  pub gx : number_of words.gx.bytes ≡ Some entry.gx
  pub gy : number_of words.gy.bytes ≡ Some entry.gy
  pub listed : length_of words.listed.bytes ≡ Some entry.length

-- a line without fields
abbrev pub IsBlank : LineAt → Type 0
IsBlank line = fields_from line.place line.bytes ≡ []

-- the word and the version
abbrev pub IsVersion : List ℕ → Type 0
IsVersion line = (fields_of line ≡ codes "version" ∷ codes "1" ∷ []) ⊎
    (fields_of line ≡ codes "version" ∷ codes "1.0" ∷ [])

-- a version line, and lines of which each is blank or spells the entry at its place
pub record SpellsLines (lines : List LineAt) (entries : List Entry) : Type 0 where
  pub first : LineAt
  pub others : List LineAt
  pub are : lines ≡ first ∷ others
  pub version : IsVersion first.bytes
  pub spelled : SpellInOrder IsBlank IsEntry others entries

-- the lines of the text are so
abbrev pub Spells : List ℕ → List Entry → Type 0
Spells text entries = SpellsLines (lines_at text) entries
