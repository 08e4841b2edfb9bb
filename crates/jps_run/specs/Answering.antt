-- How far the answers to commands have come.
use Rattle.std.specs.Prelude.{◌≡◌, ℕ, List, []}
use Rattle.std.specs.List.{fold}
use Rattle.grid_moves.specs.Layers.{Layers}
use Rattle.map_text.specs.Map.{Map}
use Rattle.edit_replay.specs.Edited.{Edit, edited}
use Rattle.edit_replay.specs.Session.{SessionData}
use Rattle.script_text.specs.declared.command.ScriptCommand.{ScriptCommand}
use Rattle.word_list.specs.declared.request.Settings.{Settings}
use Rattle.jps_run.specs.Answers.{answer_lines, edits_with, solve_output}
use Rattle.jps_run.specs.Parts.{Prints}
use Rattle.jps_run.specs.Rising.{RoseForCommands}
use Rattle.jps_run.specs.Session.{IsSessionOn, session_replies, session_after}
use Rattle.jps_run.specs.declared.replies.answers.Answers.{Answers}

-- the session on a map answers, and shows what the settings ask for
pub record AreAnswersOn (set : Settings) (m : Map) (job : Answers) : Type 0 where
  pub session : IsSessionOn set m job.session
  pub show : job.show ≡ set.show

-- the lines that answer commands by this job
abbrev pub lines_by : Answers → List ScriptCommand → List (List ℕ)
lines_by job commands = answer_lines (session_replies job.session) job.show job.session.layers commands

-- the session goes on with the edits of the command
pub record GoesOn (old : SessionData) (command : ScriptCommand) (new : SessionData) : Type 0 where
  pub engine : new.engine ≡ old.engine
  pub layers : (m : Layers) (edits : List Edit) → old.layers ≡ edited m edits
      → new.layers ≡ edited m (edits_with edits command)

-- the counter rose for these commands, and their edits were made
pub record HaveCounted (first now : Answers) (commands : List ScriptCommand) (old new : ℕ) : Type 0 where
  pub rose : RoseForCommands first.session commands old new
  pub session : now.session ≡ session_after first.session (fold edits_with [] commands)

-- the commands have these lines, and their edits were made
pub record HasAnswered (first now : Answers) (commands : List ScriptCommand) (lines : List (List ℕ))
    : Type 0 where
  pub answers : lines ≡ lines_by first commands
  pub session : now.session ≡ session_after first.session (fold edits_with [] commands)
  pub show : now.show ≡ first.show

-- one line answers each command, with status 0
abbrev pub IsSolved : Answers → List ScriptCommand → List (List ℕ) → ℕ → Type 0
IsSolved first commands =
    Prints (solve_output (session_replies first.session) first.show first.session.layers commands)
