-- What a request comes to, where nothing outside fails and memory is there.
use Rattle.std.specs.Prelude.{◌≡◌, ℕ, Bool, List, [], Option, Some, None, if◌then◌else◌, unwrap_or}
use Rattle.std.specs.Option.{option_map, option_map_or}
use Rattle.io_edge.specs.Known.{Held}
use Rattle.map_text.specs.Map.{Map}
use Rattle.word_list.specs.Calls.{call_of, is_call}
use Rattle.word_list.specs.Request.{Call}
use Rattle.word_list.specs.Rule.{IsBadWord}
use Rattle.word_list.specs.declared.rows.Command.{Command}
use Rattle.word_list.specs.declared.rows.Command.TheVariants as command
use Rattle.line_feed.specs.Lines.{lines_of}
use Rattle.call_files.specs.FaultLines.{word_line}
use Rattle.call_files.specs.Files.{AreAccepted, HasRefused}
use Rattle.jps_run.specs.Calls.{files_of, output_of, reads_input}
use Rattle.jps_run.specs.Heard.{Answering, IsInput, heard_commands, heard_refusal}
use Rattle.jps_run.specs.Live.{answers_on}
use Rattle.jps_run.specs.Manner.{Manner, manner_of}
use Rattle.jps_run.specs.Parts.{Output, on_map}
use Rattle.jps_run.specs.Replies.{By, Replies}
use Rattle.jps_run.specs.Serving.{Serving, serving_on, wants_of}

-- the words spell the call
abbrev pub Spell : List (List ℕ) → Call → Type 0
Spell words call = call_of words ≡ Some call

-- the lines and the status are the output of a call, with the files that are held
pub record IsOutput (replies : By → Replies) (call : Call) (holds : List ℕ → Held) (lines : List (List ℕ))
    (status : ℕ) : Type 0 where
  pub texts : List (List ℕ)
  pub accepted : AreAccepted holds [] (files_of call) texts
  pub answered : output_of replies call texts ≡ Some (record { lines = lines; status = status })

-- the status; the lines that `out` gets, and for which of them memory may be wanted, so that `memory` may
-- stand in their place; and the line that `err` gets
pub record Outcome : Type 0 where
  pub status : ℕ
  pub out : List (List ℕ)
  pub wants : List Bool
  pub line : List ℕ

-- of a call that prints this
abbrev pub outcome_with : Output → Outcome
outcome_with o = record { status = o.status; out = o.lines; wants = []; line = [] }

-- of one that answers a script that comes in
abbrev pub outcome_hearing : Answering → List ℕ → Outcome
outcome_hearing answers script = record {
  status = option_map_or (λ line. 3) (heard_refusal script) 0;
  out = answers (heard_commands script);
  wants = [];
  line = unwrap_or (heard_refusal script) [];
}

-- of one that answers each line that comes in
abbrev pub outcome_serving : Serving → List ℕ → Outcome
outcome_serving answers input = record {
  status = 0;
  out = answers (lines_of input);
  wants = wants_of (lines_of input);
  line = [];
}

-- of a call of a command that reads the input, on a map and what comes in
abbrev pub outcome_on : Command → Manner → Map → List ℕ → Option Outcome
outcome_on command.Live manner m input = Some (outcome_hearing (answers_on manner m) input)
outcome_on command.Serve manner m input = Some (outcome_serving (serving_on manner m) input)
outcome_on other manner m input = None

-- what a call comes to on the texts of its files, each accepted, and on what comes in, if it reads the input
unfoldable pub outcome_of : (By → Replies) → Call → List (List ℕ) → List ℕ → Option Outcome
outcome_of replies call texts input =
    if reads_input call.request.command
    then on_map texts (λ m behind. outcome_on call.request.command (manner_of replies call.settings) m input)
    else option_map outcome_with (output_of replies call texts)

-- what words, held files and an input come to, by what is replied to queries: the words are refused, or else
-- the text of a file, or else it is what the call comes to
pub data IsOutcome (replies : By → Replies) (words : List (List ℕ)) (holds : List ℕ → Held)
    (input : Option (List ℕ))
    : Outcome → Type 0 where
  bad_word : (number : ℕ) → IsBadWord is_call words number
      → IsOutcome replies words holds input
      (record { status = 2; out = []; wants = []; line = word_line number })
  bad_text : (call : Call) (line : List ℕ) → Spell words call
      → HasRefused holds (files_of call) line
      → IsOutcome replies words holds input (record { status = 3; out = []; wants = []; line = line })
  done : (call : Call) (texts : List (List ℕ)) (script : List ℕ) (outcome : Outcome) → Spell words call
      → AreAccepted holds [] (files_of call) texts → IsInput input script
      → outcome_of replies call texts script ≡ Some outcome → IsOutcome replies words holds input outcome
