-- A script that comes in pieces: what is known of it by the bytes that came so far.
use Rattle.std.specs.Prelude.{◌≡◌, ◌≢◌, ℕ, ◌+◌, nat_lt, if◌then◌else◌, List, [], ◌∷◌, ◌++◌, length, take}
use Rattle.std.specs.Prelude.{Option, Some, None, Result, Ok, Err}
use Rattle.std.specs.Option.{option_or}
use Rattle.text_line.specs.Left.{Numbered, numbered_from, numbered_pieces}
use Rattle.text_line.specs.Lines.{is_line_feed}
use Rattle.text_line.specs.Reading.{first_fault}
use Rattle.script_text.specs.declared.command.ScriptCommand.{ScriptCommand}
use Rattle.script_text.specs.declared.fault.ScriptFault.{ScriptFault}
use Rattle.script_text.specs.declared.fault.ScriptFault.TheVariants.{Long, NoMemory}
use Rattle.script_text.specs.Lines.{piece_read}

-- a text cut behind each line feed: the lines that have theirs, without it, and the bytes behind the last one
pub record Cut : Type 0 where
  pub lines : List (List ℕ)
  pub rest : List ℕ

-- a byte that ends no line stands before a text
abbrev pub within_line : ℕ → List (List ℕ) → List ℕ → Cut
within_line byte [] rest = record { lines = []; rest = byte ∷ rest }
within_line byte (line ∷ lines) rest = record { lines = (byte ∷ line) ∷ lines; rest = rest }

-- a byte stands before a text
abbrev pub with_first : ℕ → Cut → Cut
with_first byte c =
    if is_line_feed byte then record { lines = [] ∷ c.lines; rest = c.rest }
    else within_line byte c.lines c.rest

unfoldable pub cut : List ℕ → Cut
cut [] = record { lines = []; rest = [] }
cut (byte ∷ bytes) = with_first byte (cut bytes)

-- a line's command behind which those of later lines come, where it is not refused
abbrev pub with_command : Result (Option ScriptCommand) ScriptFault → List ScriptCommand → List ScriptCommand
with_command (Ok (Some command)) later = command ∷ later
with_command (Ok None) later = later
with_command (Err fault) later = []

-- the commands of the lines before the first one that is refused
abbrev pub commands_on : List Numbered → List ScriptCommand
commands_on [] = []
commands_on (line ∷ lines) = with_command (piece_read line) (commands_on lines)

-- the lines that have their line feed
abbrev pub whole_lines : Cut → List Numbered
whole_lines c = numbered_from 1 c.lines

-- a line that is still to be completed is refused once it has more than 128 bytes
abbrev pub length_fault : ℕ → List ℕ → Option ScriptFault
length_fault number rest = if nat_lt 128 (length rest) then Some (Long number) else None

-- the fault that is known of a cut text, whatever bytes come behind it
abbrev pub known_fault : Cut → Option ScriptFault
known_fault c =
    option_or (first_fault piece_read (whole_lines c)) (length_fault (length c.lines + 1) c.rest)

-- the fault that is known by the bytes so far
unfoldable pub fault_so_far : List ℕ → Option ScriptFault
fault_so_far text = known_fault (cut text)

-- the commands that are known by them: those of the lines with line feed, before the first refused one
unfoldable pub commands_so_far : List ℕ → List ScriptCommand
commands_so_far text = commands_on (whole_lines (cut text))

-- the first fault of a whole text, whose last line needs no line feed
unfoldable pub fault_of : List ℕ → Option ScriptFault
fault_of text = first_fault piece_read (numbered_pieces text)

-- the commands of a whole text, before its first refused line
unfoldable pub commands_of : List ℕ → List ScriptCommand
commands_of text = commands_on (numbered_pieces text)

-- so many commands were appended as make the later ones of the earlier ones
pub record Appended (earlier later before now : List ScriptCommand) : Type 0 where
  pub more : List ScriptCommand
  pub known : later ≡ earlier ++ more
  pub appended : now ≡ before ++ more

-- an answer that is not for want of memory has this fault, or none
abbrev pub Answers : Result (Unit {0}) ScriptFault → Option ScriptFault → Type 0
Answers (Ok done) fault = fault ≡ None
Answers (Err named) fault = (fault ≡ Some named) × (named ≢ NoMemory)

-- the fault became known with the last byte that was taken of a piece
pub record IsMet (text piece : List ℕ) (before now : ℕ) (fault : ScriptFault) : Type 0 where
  pub count : ℕ
  pub taken : now ≡ before + (count + 1)
  pub clean : fault_so_far (text ++ take count piece) ≡ None
  pub known : fault_so_far (text ++ take (count + 1) piece) ≡ Some fault
