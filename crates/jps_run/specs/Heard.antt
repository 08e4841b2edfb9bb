-- A script that comes in: its commands, its refusal, the lines that answer it, and how far the counter rises
-- for it.
use Rattle.std.specs.Prelude.{◌≡◌, ℕ, ◌≤◌, ⊤, Bool, if◌then◌else◌, nat_lt, List, length, take, codes}
use Rattle.std.specs.Prelude.{Option, Some, None}
use Rattle.std.specs.List.{concat}
use Rattle.std.specs.Option.{option_map, option_map_or}
use Rattle.std.specs.Io.KnownBytes.{Consumes, IsAtEnd}
use Rattle.io_edge.specs.Known.{Outflow}
use Rattle.io_edge.specs.Whole.{AppendsSome}
use Rattle.edit_replay.specs.Session.{SessionData}
use Rattle.script_text.specs.declared.command.ScriptCommand.{ScriptCommand}
use Rattle.script_text.specs.Feeding.{commands_of, commands_so_far, fault_of, fault_so_far}
use Rattle.call_files.specs.FaultLines.{long_line, script_line}
use Rattle.call_files.specs.Kinds.{limit_of}
use Rattle.call_files.specs.declared.kind.TextKind.TheVariants as kind
use Rattle.line_work.specs.Sending.{Wrote}
use Rattle.jps_run.specs.Rising.{RoseForCommands}

-- what is left to come in is this text, where it is known
abbrev pub IsInput : Option (List ℕ) → List ℕ → Type 0
IsInput None text = ⊤
IsInput (Some left) text = text ≡ left

-- of a script that is too long these bytes count
abbrev pub counted : List ℕ → List ℕ
counted script = take (limit_of kind.Script) script

-- a script is too long
abbrev pub is_long : List ℕ → Bool
is_long script = nat_lt (limit_of kind.Script) (length script)

-- the commands of a script before its first refused line: where it is too long, its last line is not judged
-- without its line feed
abbrev pub heard_commands : List ℕ → List ScriptCommand
heard_commands script = if is_long script then commands_so_far (counted script) else commands_of script

-- the line of its refusal, if it is refused: where it is too long, a line of the bytes that count comes first
abbrev pub heard_refusal : List ℕ → Option (List ℕ)
heard_refusal script = if is_long script
    then Some (option_map_or script_line (fault_so_far (counted script)) (long_line (codes "script")))
    else option_map script_line (fault_of script)

-- the whole commands among bytes that were taken, before the first refused line: those of the lines with line
-- feed, and at the end that of the last line
pub data AreWhole (left : Option (List ℕ)) (taken : List ℕ) (commands : List ScriptCommand) : Type 0 where
  so_far : commands ≡ commands_so_far (counted taken) → AreWhole left taken commands
  at_end : IsAtEnd left → length taken ≤ limit_of kind.Script → commands ≡ commands_of taken
      → AreWhole left taken commands

-- the lines that answer commands as they come in
abbrev pub Answering : Type 0
Answering = List ScriptCommand → List (List ℕ)

-- the lines answer the commands of what comes in, up to its first refused line, and this is the line of its
-- refusal
pub record AnswerHeard (answers : Answering) (input refusal : Option (List ℕ)) (lines : List (List ℕ))
    : Type 0 where
  pub script : List ℕ
  pub comes : IsInput input script
  pub refused : refusal ≡ heard_refusal script
  pub are : lines ≡ answers (heard_commands script)

-- the lines answer the whole commands among the bytes that were taken
pub record AnswerTaken (answers : Answering) (input left : Option (List ℕ)) (lines : List (List ℕ))
    : Type 0 where
  pub taken : List ℕ
  pub consumed : Consumes input left taken
  pub commands : List ScriptCommand
  pub whole : AreWhole left taken commands
  pub are : lines ≡ answers commands

-- so they do, and no line of the bytes is refused
pub record AnswerPending (answers : Answering) (input left : Option (List ℕ)) (lines : List (List ℕ))
    : Type 0 where
  pub taken : List ℕ
  pub consumed : Consumes input left taken
  pub few : length taken ≤ limit_of kind.Script
  pub clean : fault_so_far taken ≡ None
  pub are : lines ≡ answers (commands_so_far taken)

-- lines that stand so were written: all of them, a first part, or the first ones, each whole
pub record WroteAll (Stand : List (List ℕ) → Type 0) (before now : Outflow) : Type 0 where
  pub lines : List (List ℕ)
  pub stand : Stand lines
  pub wrote : Wrote before now (concat lines)

pub record WroteFirst (Stand : List (List ℕ) → Type 0) (before now : Outflow) : Type 0 where
  pub lines : List (List ℕ)
  pub stand : Stand lines
  pub wrote : AppendsSome before.written now.written (concat lines)

pub record WroteLines (Stand : List (List ℕ) → Type 0) (before now : Outflow) : Type 0 where
  pub lines : List (List ℕ)
  pub stand : Stand lines
  pub count : ℕ
  pub wrote : Wrote before now (concat (take count lines))

-- the counter rose as the commands of the script make it that came in, which is not refused
pub record RoseHeard (d : SessionData) (input : Option (List ℕ)) (old new : ℕ) : Type 0 where
  pub script : List ℕ
  pub comes : IsInput input script
  pub clean : heard_refusal script ≡ None
  pub rose : RoseForCommands d (heard_commands script) old new
