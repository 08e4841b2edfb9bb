-- What a call of `live` answers, and that it was written.
use Rattle.std.specs.Prelude.{◌≡◌, ℕ, List, [], ◌∷◌, Option, Ok}
use Rattle.io_edge.specs.Known.{Held, Outflow}
use Rattle.map_text.specs.Map.{Map}
use Rattle.map_text.specs.Faults.{map_of}
use Rattle.word_list.specs.Request.{Call}
use Rattle.word_list.specs.declared.rows.Command.{Command}
use Rattle.word_list.specs.declared.rows.Command.TheVariants.{Live}
use Rattle.call_files.specs.Files.{AreAccepted}
use Rattle.jps_run.specs.Answers.{answer_lines}
use Rattle.jps_run.specs.Calls.{files_of}
use Rattle.jps_run.specs.Heard.{Answering, AnswerHeard, WroteAll}
use Rattle.call_files.specs.Layered.{grids_under}
use Rattle.jps_run.specs.Manner.{Manner, manner_of}
use Rattle.jps_run.specs.Replies.{By, Replies}

-- the call is one of this command, which answers what comes in: each of its files is accepted, the map first,
-- and of the map this holds
pub record On (command : Command) (call : Call) (holds : List ℕ → Held) (Such : Map → Type 0) : Type 0 where
  pub is : call.request.command ≡ command
  pub text : List ℕ
  pub behind : List (List ℕ)
  pub accepted : AreAccepted holds [] (files_of call) (text ∷ behind)
  pub read : Map
  pub spelled : map_of text ≡ Ok read
  pub such : Such read

-- the lines that answer commands on a map
abbrev pub answers_on : Manner → Map → Answering
answers_on manner m commands = answer_lines manner.session manner.show (grids_under manner.rule m) commands

-- so it is for a call
abbrev pub lines_on : (By → Replies) → Call → Map → Answering
lines_on replies call = answers_on (manner_of replies call.settings)

-- its lines were written
abbrev pub WroteHeard : (By → Replies) → Call → (List ℕ → Held) → Outflow → Outflow → Option (List ℕ)
    → Option (List ℕ) → Type 0
WroteHeard replies call holds out out_now input refusal =
    On Live call holds (λ m. WroteAll (AnswerHeard (lines_on replies call m) input refusal) out out_now)
