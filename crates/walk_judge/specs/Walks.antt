-- What the text of the walks is read as, what it spells, and how it breaks its form.
use Rattle.std.specs.Prelude.{◌≡◌, ℕ, ◌+◌, nat_lt, nat_le, if◌then◌else◌, List, [], ◌∷◌, length, Option, Some}
use Rattle.std.specs.Prelude.{None, Result, Ok, Err, Vec}
use Rattle.std.specs.declared.alloc.Global.{Global}
use Rattle.text_line.specs.Fields.{fields_of, is_blank}
use Rattle.text_line.specs.Lines.{lines_of}
use Rattle.text_line.specs.Reading as lines
use Rattle.text_line.specs.Reading.{read_lines, fault_on, SpellInOrder}
use Rattle.walk_judge.specs.declared.fault.WalkFault.{WalkFault}
use Rattle.walk_judge.specs.declared.fault.WalkFault.TheVariants.{Line, Count, NoMemory}
use Rattle.walk_judge.specs.declared.claims.Claimed.{Claimed}
use Rattle.walk_judge.specs.Claims.{claimed_in, AreFieldsOf}

-- a place of a text: a line with its number, from 1, how many lines before it are not blank, and its bytes;
-- or the end, with the number that a further line would have, and how many lines are not blank
pub data Place : Type 0 where
  at_line : ℕ → ℕ → List ℕ → Place
  at_end : ℕ → ℕ → Place

-- the places of lines from a number on, before which so many are not blank, and of the end
abbrev pub places_from : ℕ → ℕ → List (List ℕ) → List Place
places_from number before [] = at_end number before ∷ []
places_from number before (line ∷ lines) =
    at_line number before line ∷ places_from (number + 1) (if is_blank line then before else before + 1) lines

-- the places of a text
abbrev pub places_of : List ℕ → List Place
places_of text = places_from 1 0 (lines_of text)

-- what is claimed on the line with this number, or K1: its fields are of no form
abbrev pub form_read : ℕ → Option Claimed → Result (Option Claimed) WalkFault
form_read number None = Err (Line number)
form_read number (Some claimed) = Ok (Some claimed)

-- what a line is read as by its fields: nothing where there is none; K2: all entries have their lines before
-- it; else what it tells, or K1
abbrev pub fields_read : ℕ → ℕ → ℕ → List (List ℕ) → Result (Option Claimed) WalkFault
fields_read entries number before [] = Ok None
fields_read entries number before (field ∷ fields) =
    if nat_le entries before then Err (Count number) else form_read number (claimed_in (field ∷ fields))

-- what a place is read as, where there are so many entries; at the end K2: an entry has no line
abbrev pub place_read : ℕ → Place → Result (Option Claimed) WalkFault
place_read entries (at_line number before line) = fields_read entries number before (fields_of line)
place_read entries (at_end number before) = if nat_lt before entries then Err (Count number) else Ok None

-- what a text is read as for so many entries: a walk for each, or the fault of its first broken line
unfoldable pub walks_of : List ℕ → ℕ → Result (List Claimed) WalkFault
walks_of text entries = read_lines (place_read entries) (places_of text)

-- the first place that breaks the form breaks it so
abbrev pub BreaksFirst : List ℕ → ℕ → WalkFault → Type 0
BreaksFirst text entries fault = lines.BreaksFirst (fault_on (place_read entries) (places_of text)) fault

-- a line without fields
abbrev pub IsBlank : List ℕ → Type 0
IsBlank line = fields_of line ≡ []

-- a line that tells this
abbrev pub IsLineOf : List ℕ → Claimed → Type 0
IsLineOf line claimed = AreFieldsOf (fields_of line) claimed

-- each line of the text is blank or tells the walk at its place, and there are as many walks as entries
pub record Spells (text : List ℕ) (entries : ℕ) (walks : List Claimed) : Type 0 where
  pub spelled : SpellInOrder IsBlank IsLineOf (lines_of text) walks
  pub counted : length walks ≡ entries

-- an answer tells a reading; for want of memory it tells nothing
abbrev pub Tells : Result (Vec Claimed Global) WalkFault → Result (List Claimed) WalkFault → Type 0
Tells answer read = lines.Tells NoMemory (λ walks. walks.items) answer read

-- and so does an answer for a line
abbrev pub TellsLine : Result (Option Claimed) WalkFault → Result (Option Claimed) WalkFault → Type 0
TellsLine answer read = lines.Tells NoMemory (λ claimed. claimed) answer read
