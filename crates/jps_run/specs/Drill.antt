-- What the commands of a drill come to, and the line that sums it up.
use Rattle.std.specs.Prelude.{ℕ, ◌+◌, ◌<◌, ◌^◌, Bool, true, false, ⊤, List, [], ◌++◌, codes, decimal}
use Rattle.std.specs.Prelude.{count_by}
use Rattle.std.specs.List.{sum_by}
use Rattle.grid_moves.specs.Layers.{Layers}
use Rattle.edit_replay.specs.Edited.{edit_at, edit_reply}
use Rattle.edit_replay.specs.declared.reply.EditReply.{EditReply}
use Rattle.edit_replay.specs.declared.reply.EditReply.TheVariants as edit
use Rattle.edit_replay.specs.declared.reply.Reply.{Reply}
use Rattle.edit_replay.specs.declared.reply.Reply.TheVariants as reply
use Rattle.grid_moves.specs.declared.Ground.TheVariants.{Blocked, Land, Water}
use Rattle.map_maker.specs.Drill.{drill_commands}
use Rattle.map_maker.specs.Making.{made_map}
use Rattle.script_text.specs.declared.command.ScriptCommand.{ScriptCommand}
use Rattle.script_text.specs.declared.command.ScriptCommand.TheVariants.{Block, Free, Flood, Query}
use Rattle.jps_run.specs.Answers.{in_turn}
use Rattle.call_files.specs.Layered.{grids_under}
use Rattle.jps_run.specs.Manner.{Manner}
use Rattle.jps_run.specs.Replies.{Replies}
use Rattle.jps_run.specs.declared.replies.findings.Finding.{Finding}
use Rattle.jps_run.specs.declared.replies.findings.Finding.TheVariants as finding

-- what the reply to a query comes to
abbrev pub finding_of : Reply → Finding
finding_of (reply.Walk points cost taken) = finding.Walk cost
finding_of (reply.None taken) = finding.None
finding_of reply.Outside = finding.Outside
finding_of reply.Blocked = finding.Blocked

-- what the reply to an edit comes to
abbrev pub finding_of_edit : EditReply → Finding
finding_of_edit edit.Done = finding.Done
finding_of_edit edit.Same = finding.Same
finding_of_edit edit.Outside = finding.Outside

-- what a command comes to
abbrev pub finding_on : Replies → Layers → ScriptCommand → Finding
finding_on replies ls (Block x y) = finding_of_edit (edit_reply ls (edit_at x y Blocked))
finding_on replies ls (Free x y) = finding_of_edit (edit_reply ls (edit_at x y Land))
finding_on replies ls (Flood x y) = finding_of_edit (edit_reply ls (edit_at x y Water))
finding_on replies ls (Query sx sy gx gy) =
    finding_of (replies ls (record { x = sx; y = sy }) (record { x = gx; y = gy }))

-- what each command comes to, on the grids as the edits before it leave them
abbrev pub findings_of : Replies → Layers → List ScriptCommand → List Finding
findings_of replies ls commands = in_turn (finding_on replies) ls [] commands

abbrev pub is_walk : Finding → Bool
is_walk (finding.Walk cost) = true
is_walk _ = false

abbrev pub is_none : Finding → Bool
is_none finding.None = true
is_none _ = false

abbrev pub is_blocked : Finding → Bool
is_blocked finding.Blocked = true
is_blocked _ = false

abbrev pub is_done : Finding → Bool
is_done finding.Done = true
is_done _ = false

abbrev pub is_same : Finding → Bool
is_same finding.Same = true
is_same _ = false

-- the straight and the diagonal moves of a walk
abbrev pub straight_in : Finding → ℕ
straight_in (finding.Walk cost) = cost.a
straight_in _ = 0

abbrev pub diagonal_in : Finding → ℕ
diagonal_in (finding.Walk cost) = cost.b
diagonal_in _ = 0

-- a walk has fewer than 2^24 moves
abbrev pub IsShortFinding : Finding → Type 0
IsShortFinding (finding.Walk cost) = cost.a + cost.b < 2 ^ 24
IsShortFinding _ = ⊤

-- a text and a number
abbrev pub counted : List ℕ → ℕ → List ℕ
counted text n = text ++ decimal n

-- the parts of the line: how many queries came to each kind of finding
abbrev pub queries_text : ℕ → ℕ → ℕ → List ℕ
queries_text walks none blocked =
    counted (codes "drill walks ") walks ++ counted (codes " none ") none
    ++ counted (codes " blocked ") blocked

-- how many edits did
abbrev pub edits_text : ℕ → ℕ → List ℕ
edits_text done same = counted (codes " ok ") done ++ counted (codes " same ") same

-- and the sum of the walks' costs
abbrev pub costs_text : ℕ → ℕ → List ℕ
costs_text straight diagonal = counted (codes " cost ") straight ++ counted (codes " ") diagonal ++ codes "\n"

-- the line
abbrev pub drill_line : List Finding → List ℕ
drill_line found =
    queries_text (count_by is_walk found) (count_by is_none found) (count_by is_blocked found)
    ++ edits_text (count_by is_done found) (count_by is_same found)
    ++ costs_text (sum_by straight_in found) (sum_by diagonal_in found)

-- what the commands of the seed come to, on the map of the seed: 256 by 256, a quarter of it blocked
abbrev pub drilled : Manner → ℕ → List Finding
drilled manner seed =
    findings_of manner.session (grids_under manner.rule (made_map seed 256 256 25)) (drill_commands seed)
