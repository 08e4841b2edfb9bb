-- What is printed by whoever answers: what commands and entries come to, and where a script breaks off.
use Rattle.std.specs.Prelude.{◌≡◌, ℕ, List, Option, Some}
use Rattle.grid_moves.specs.Layers.{Layers}
use Rattle.script_text.specs.declared.command.ScriptCommand.{ScriptCommand}
use Rattle.scen_text.specs.declared.entry.Entry.{Entry}
use Rattle.word_list.specs.declared.request.Settings.{Settings}
use Rattle.word_list.specs.declared.request.Show.{Show}
use Rattle.jps_run.specs.Answers.{answer_lines}
use Rattle.jps_run.specs.Drill.{drilled, findings_of}
use Rattle.jps_run.specs.Heard.{AnswerTaken, heard_commands}
use Rattle.jps_run.specs.Manner.{manner_of}
use Rattle.jps_run.specs.Replies.{By, Replies}
use Rattle.jps_run.specs.Rows.{rows_of}
use Rattle.jps_run.specs.Who.{replies_by}
use Rattle.outcome_laws.specs.Alike.{BeginWith}
use Rattle.outcome_laws.specs.Forgetting.{DifferInTaken}

-- the lines for the bytes of a known script that were taken begin those of the whole script
abbrev pub TakenBeginsHeard : Type 0
TakenBeginsHeard = (replies : Replies) (show : Show) (ls : Layers) (script : List ℕ) (left : Option (List ℕ))
    (lines : List (List ℕ)) → AnswerTaken (answer_lines replies show ls) (Some script) left lines
    → BeginWith (answer_lines replies show ls (heard_commands script)) lines

-- what commands come to, whoever answers
abbrev pub FindingsAreOne : Type 0
FindingsAreOne = (by other : By) (ls : Layers) (commands : List ScriptCommand)
    → findings_of (replies_by by) ls commands ≡ findings_of (replies_by other) ls commands

-- what a drill comes to, whatever engines two settings pick
abbrev pub DrillsAreOne : Type 0
DrillsAreOne = (set other : Settings) (seed : ℕ) → set.rule ≡ other.rule
    → drilled (manner_of replies_by set) seed ≡ drilled (manner_of replies_by other) seed

-- the rows of entries, whoever answers
abbrev pub RowsDifferInTaken : Type 0
RowsDifferInTaken = (by other : By) (ls : Layers) (entries : List Entry)
    → DifferInTaken (rows_of (replies_by by) ls entries) (rows_of (replies_by other) ls entries)
