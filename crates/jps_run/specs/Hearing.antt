-- How far the answers to what comes in have come.
use Rattle.std.specs.Prelude.{◌≡◌, ◌≢◌, ℕ, ◌<◌, ◌≤◌, ◌^◌, ⊤, ◌++◌, List, [], length, MatchOption, Option}
use Rattle.std.specs.Prelude.{Some, None, Result, Ok, Err}
use Rattle.std.specs.Option.{option_map}
use Rattle.std.specs.Io.KnownBytes.{Consumes}
use Rattle.io_edge.specs.Causes.{Rose}
use Rattle.script_text.specs.declared.command.ScriptCommand.{ScriptCommand}
use Rattle.script_text.specs.declared.fault.ScriptFault.{ScriptFault}
use Rattle.script_text.specs.declared.fault.ScriptFault.TheVariants.{NoMemory}
use Rattle.script_text.specs.declared.feeder.LineFeeder.{LineFeeder}
use Rattle.script_text.specs.Fed.{HasTaken}
use Rattle.script_text.specs.Feeding.{commands_so_far, commands_of, fault_so_far, fault_of}
use Rattle.script_text.specs.Feeding as feeding
use Rattle.jps_run.specs.Answering.{HasAnswered, IsSolved, lines_by}
use Rattle.call_files.specs.FaultLines.{script_line}
use Rattle.jps_run.specs.Heard.{AnswerHeard, AnswerTaken, AnswerPending, WroteAll, WroteFirst, WroteLines}
use Rattle.io_edge.specs.Known.{Inflow, Outflow}
use Rattle.line_work.specs.Sending.{IsPart}
use Rattle.line_work.specs.Stops.{Stops, EndsOrStops}
use Rattle.line_work.specs.Working.{HaveWorked}
use Rattle.jps_run.specs.declared.replies.answers.Answers.{Answers}
use Rattle.line_work.specs.declared.stop.Stop.{Stop}

-- the commands are answered, and their lines were written
abbrev pub HasWritten : Answers → Answers → List ScriptCommand → Outflow → Outflow → Type 0
HasWritten first now commands before after = HaveWorked HasAnswered first now commands before after

-- all commands that are known now, with the fault that is known, by an answer and the commands that were
-- appended
pub record AreKnownCommands (answer : Result (Unit {0}) ScriptFault) (earlier more all : List ScriptCommand)
    (fault : Option ScriptFault) : Type 0 where
  pub others : List ScriptCommand
  pub are : all ≡ earlier ++ (more ++ others)
  pub exact : answer ≢ Err NoMemory → (others ≡ []) × feeding.Answers answer fault

-- what is known where the answers to all these commands stop, behind which this fault is known
abbrev pub known_stops : Answers → Answers → List ScriptCommand → Option ScriptFault → Outflow → Outflow
    → Stops
known_stops first new all fault before now = record {
  Refused = λ line. (option_map script_line fault ≡ Some line) × HasWritten first new all before now;
  Read = ⊥;
  Write = Rose before.faults now.faults × IsPart (IsSolved first all) before now;
  Memory = WroteLines (λ lines. lines ≡ lines_by first all) before now;
}

-- all known commands were answered, and no fault is known; or that stops
abbrev pub AnswersKnown : Answers → Answers → Result (Unit {0}) ScriptFault → List ScriptCommand → Outflow
    → Outflow
    → Result (Unit {0}) Stop → Type 0
AnswersKnown old new answer more at now result =
    (first : Answers) (earlier all : List ScriptCommand) (fault : Option ScriptFault) (before : Outflow)
    → HasWritten first old earlier before at → AreKnownCommands answer earlier more all fault
    → EndsOrStops (λ done. (answer ≡ Ok tt) × (fault ≡ None) × HasWritten first new all before now)
    (known_stops first new all fault before now) result

-- these bytes came in, no line is refused, and their whole commands are answered
pub record HasHeard (first now : Answers) (feeder : LineFeeder) (text : List ℕ)
    (before after : Outflow) : Type 0 where
  pub fed : HasTaken feeder text
  pub clean : fault_so_far text ≡ None
  pub written : HasWritten first now (commands_so_far text) before after

-- one piece more came in, and its whole commands are answered; or that stops
abbrev pub HearsPiece : Answers → Answers → LineFeeder → LineFeeder → List ℕ → Outflow → Outflow
    → Result (Unit {0}) Stop → Type 0
HearsPiece old new feeder feeder_now piece at now result =
    (first : Answers) (text : List ℕ) (before : Outflow)
    → HasHeard first old feeder text before at
    → EndsOrStops (λ done. HasHeard first new feeder_now (text ++ piece) before now)
    (known_stops first new (commands_so_far (text ++ piece)) (fault_so_far (text ++ piece)) before now) result

-- nothing more comes in, and the command of the last line is answered too; or that stops
abbrev pub HearsEnd : Answers → Answers → LineFeeder → Outflow → Outflow → Result ℕ Stop → Type 0
HearsEnd old new feeder at now result = (first : Answers) (text : List ℕ) (before : Outflow)
    → HasHeard first old feeder text before at
    → EndsOrStops (λ status. (status ≡ 0) × (fault_of text ≡ None)
    × HasWritten first new (commands_of text) before now)
    (known_stops first new (commands_of text) (fault_of text) before now) result

-- an answer is passed on, its fault as the line of a refusal
abbrev pub Refuses : Result (Unit {0}) ScriptFault → Result (Unit {0}) Stop → Type 0
Refuses answer result = EndsOrStops (λ done. answer ≡ Ok tt) (record {
  Refused = λ line. (fault : ScriptFault) × (answer ≡ Err fault) × (fault ≢ NoMemory)
      × (line ≡ script_line fault);
  Read = ⊥;
  Write = ⊥;
  Memory = ⊤;
}) result

-- bytes came in in which no line is refused, and their whole commands are answered; more may be read
pub record IsHearing (first now : Answers) (feeder : LineFeeder) (input input_now : Inflow) (buffer : List ℕ)
    (before after : Outflow) : Type 0 where
  pub text : List ℕ
  pub consumed : Consumes input.left input_now.left text
  pub counted : length text ≡ feeder.taken
  pub few : feeder.taken ≤ 2 ^ 26
  pub heard : HasHeard first now feeder text before after
  pub later : input.faults ≤ input_now.faults
  pub room : 0 < length buffer

-- what is known where it stops
abbrev pub hear_stops : Answers → Inflow → Inflow → Outflow → Outflow → Stops
hear_stops first input input_now before now = record {
  Refused = λ line. WroteAll (AnswerHeard (lines_by first) input.left (Some line)) before now;
  Read = Rose input.faults input_now.faults
      × WroteAll (AnswerPending (lines_by first) input.left input_now.left) before now;
  Write = Rose before.faults now.faults
      × WroteFirst (AnswerTaken (lines_by first) input.left input_now.left) before now;
  Memory = WroteLines (AnswerTaken (lines_by first) input.left input_now.left) before now;
}

-- all that came in is answered, with this status
abbrev pub AllIsHeard : Answers → Inflow → Outflow → Outflow → ℕ → Type 0
AllIsHeard first input before now status =
    (status ≡ 0) × WroteAll (AnswerHeard (lines_by first) input.left None) before now

-- all that came in is answered, or that stops
abbrev pub Hears : Answers → Inflow → Inflow → Outflow → Outflow → Result ℕ Stop → Type 0
Hears first input input_now before now result =
    EndsOrStops (AllIsHeard first input before now) (hear_stops first input input_now before now) result

-- behind turns in which some came in, what came in this turn is answered too, and more may be read; or
-- nothing more came in, and all is answered; or that stops
abbrev pub HearsTurn : Answers → Answers → LineFeeder → LineFeeder → Inflow → Inflow → List ℕ → List ℕ
    → Outflow
    → Outflow → Result (Option ℕ) Stop → Type 0
HearsTurn old new feeder feeder_now mid input_now buffer buffer_now at now result =
    (first : Answers) (input : Inflow) (before : Outflow)
    → IsHearing first old feeder input mid buffer before at
    → EndsOrStops (λ ended. MatchOption ended
    (IsHearing first new feeder_now input input_now buffer_now before now)
    (AllIsHeard first input before now)) (hear_stops first input input_now before now) result
