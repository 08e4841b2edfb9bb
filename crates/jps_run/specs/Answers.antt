-- The lines that answer commands.
use Rattle.std.specs.Prelude.{◌≡◌, ℕ, List, [], ◌∷◌, ◌++◌, codes, refl}
use Rattle.grid_moves.specs.Layers.{Layers, layers_of}
use Rattle.grid_moves.specs.declared.Corner.TheVariants.{Never}
use Rattle.edit_replay.specs.Edited.{Edit, edited, edited_layer}
use Rattle.edit_replay.specs.declared.reply.Reply.TheVariants.{None}
use Rattle.script_text.specs.declared.command.ScriptCommand.{ScriptCommand}
use Rattle.script_text.specs.declared.command.ScriptCommand.TheVariants.{Block, Free, Query}
use Rattle.word_list.specs.declared.request.Show.{Show}
use Rattle.word_list.specs.declared.request.Show.TheVariants.{Points}
pub use Rattle.reply_lines.specs.Replies.{query_line}
use Rattle.line_server.specs.Asked.{edits_by, scripted}
use Rattle.line_server.specs.Answers.{answer_to}
use Rattle.jps_run.specs.Parts.{Output}
use Rattle.jps_run.specs.Replies.{Replies}

-- these edits, and then those of the command
abbrev pub edits_with : List Edit → ScriptCommand → List Edit
edits_with edits command = edits ++ edits_by (scripted command)

-- what each command gives on the grids as the edits before it leave them
abbrev pub in_turn : {Y : Type 0} → (Layers → ScriptCommand → Y) → Layers → List Edit → List ScriptCommand
    → List Y
in_turn give ls edits [] = []
in_turn give ls edits (command ∷ commands) =
    give (edited ls edits) command ∷ in_turn give ls (edits_with edits command) commands

-- the line that answers a command
abbrev pub answer_line : Replies → Show → Layers → ScriptCommand → List ℕ
answer_line replies show ls command = answer_to replies show ls (scripted command)

-- one line for each command, on the grids as the edits before it leave them
abbrev pub answer_lines : Replies → Show → Layers → List ScriptCommand → List (List ℕ)
answer_lines replies show ls commands = in_turn (answer_line replies show) ls [] commands

-- what is printed for commands, and the status
abbrev pub solve_output : Replies → Show → Layers → List ScriptCommand → Output
solve_output replies show ls commands = record { lines = answer_lines replies show ls commands; status = 0 }

-- a worked row, where no query finds a walk: the second edit finds what the first one made
abbrev none_found : Replies
none_found ls s t = None []

pub edits_count_later : answer_lines none_found Points (layers_of Never 2 1 (codes ".."))
    (Block 0 0 ∷ Block 0 0 ∷ Query 0 0 1 0 ∷ Free 2 0 ∷ [])
    ≡ codes "ok\n" ∷ codes "same\n" ∷ codes "none\n" ∷ codes "outside\n" ∷ []
unfolding edited_layer
edits_count_later = refl
