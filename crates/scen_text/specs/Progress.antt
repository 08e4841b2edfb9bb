-- How far a reading has come.
use Rattle.std.specs.Prelude.{◌≡◌, List, ◌∷◌, ◌++◌, Option, Some, None}
use Rattle.text_line.specs.Places.{Placed, LineAt, placed, line_at}
use Rattle.text_line.specs.declared.places.PlacedLine.{PlacedLine}
use Rattle.scen_text.specs.declared.words.Words as declared
use Rattle.scen_text.specs.Words.{Words}
use Rattle.scen_text.specs.Spelling.{Spans}

-- words without where they lie in memory
abbrev pub plain_words : declared.Words → Words
plain_words words = record {
  bucket = placed words.bucket;
  name = words.name;
  w = placed words.w;
  h = placed words.h;
  sx = placed words.sx;
  sy = placed words.sy;
  gx = placed words.gx;
  gy = placed words.gy;
  listed = placed words.length;
}

-- the words where one more field follows
abbrev pub widened : Words → Placed → Words
widened words field = record {
  bucket = words.bucket;
  name = record { start = words.name.start; end = words.w.end };
  w = words.h;
  h = words.sx;
  sx = words.sy;
  sy = words.gx;
  gx = words.gy;
  gy = words.listed;
  listed = field;
}

-- the fields are those of the words, and others left
pub record HasWordsBefore (fields : List Placed) (words : Words) (left : List Placed) : Type 0 where
  pub name : List Placed
  pub are : fields ≡ words.bucket ∷ (name ++ words.w ∷ words.h ∷ words.sx ∷ words.sy ∷ words.gx ∷ words.gy ∷
      words.listed ∷ left)
  pub spans : Spans name words.name

-- the line that a call of `next` gave
abbrev pub line_given : Option PlacedLine → Option LineAt
line_given None = None
line_given (Some line) = Some (line_at line)
