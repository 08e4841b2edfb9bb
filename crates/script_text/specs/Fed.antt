-- What a feeder has taken of a script.
use Rattle.std.specs.Prelude.{◌≡◌, ℕ, ◌+◌, ◌≤◌, List, [], ◌∷◌, ◌++◌, length, take, count_by, vec_len}
use Rattle.std.specs.Prelude.{vec_capacity, Option, None, Ok, Result}
use Rattle.std.specs.Global.{Vec}
use Rattle.text_line.specs.Reading.{values_in, fault_in}
use Rattle.script_text.specs.declared.command.ScriptCommand.{ScriptCommand}
use Rattle.script_text.specs.declared.fault.ScriptFault.{ScriptFault}
use Rattle.text_line.specs.Lines.{is_line_feed}
use Rattle.script_text.specs.declared.feeder.LineFeeder.{LineFeeder}
use Rattle.script_text.specs.Feeding.{cut, fault_so_far, fault_of, commands_so_far, commands_of}
use Rattle.script_text.specs.Feeding.{Appended, Answers}

-- the line that is to be completed next, by its number from 1 and its bytes
pub record IsNext (text : List ℕ) (number : ℕ) (line : List ℕ) : Type 0 where
  pub counted : number ≡ length (cut text).lines + 1
  pub bytes : line ≡ (cut text).rest

-- the feeder has taken this text, in whatever pieces: it keeps its fault, or else the line that is to be
-- completed
pub record HasTaken (feeder : LineFeeder) (text : List ℕ) : Type 0 where
  pub kept : feeder.fault ≡ fault_so_far text
  pub next : fault_so_far text ≡ None → IsNext text feeder.number feeder.line.items

-- one byte more was taken of a script that had no fault: the command of the line that it ends became known,
-- or the fault
pub record HasTakenByte (text : List ℕ) (byte : ℕ) (feeder : LineFeeder)
    (result : Result (Option ScriptCommand) ScriptFault)
    : Type 0 where
  pub taken : HasTaken feeder (text ++ byte ∷ [])
  pub commands : commands_so_far (text ++ byte ∷ []) ≡ commands_so_far text ++ values_in result
  pub answer : fault_so_far (text ++ byte ∷ []) ≡ fault_in result

-- more bytes were taken: the commands that became known were appended, and the answer is the fault that is
-- known
pub record HasFed (earlier later : List ℕ) (feeder : LineFeeder) (before now : List ScriptCommand)
    (result : Result (Unit {0}) ScriptFault) : Type 0 where
  pub taken : HasTaken feeder later
  pub commands : Appended (commands_so_far earlier) (commands_so_far later) before now
  pub answer : Answers result (fault_so_far later)

-- a script whose last line is completed, if it has bytes
abbrev pub completed : List ℕ → List ℕ → List ℕ
completed [] text = text
completed (byte ∷ bytes) text = text ++ 10 ∷ []

-- the script is all: the command of a last line without line feed was appended, and the answer is the first
-- fault
pub record HasEnded (text : List ℕ) (feeder : LineFeeder) (before now : List ScriptCommand)
    (result : Result (Unit {0}) ScriptFault) : Type 0 where
  pub taken : HasTaken feeder (completed (cut text).rest text)
  pub commands : Appended (commands_so_far text) (commands_of text) before now
  pub answer : Answers result (fault_of text)

-- of a piece so many bytes were taken, and no fault was met; the room suffices for the commands of the others
pub record IsFeeding (first now : LineFeeder) (piece : List ℕ) (count : ℕ) (before got : Vec ScriptCommand)
    : Type
    0 where
  pub clean : now.fault ≡ None
  pub counted : now.taken ≡ first.taken + count
  pub room : vec_len got + count_by is_line_feed piece
      ≤ vec_capacity got + count_by is_line_feed (take count piece)
  pub fed : (text : List ℕ) → HasTaken first text
      → HasFed text (text ++ take count piece) now before.items got.items (Ok tt)
