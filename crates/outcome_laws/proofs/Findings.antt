-- What commands come to, whoever answers.
use Rattle.std.proofs.Common.{◌≡◌, ap, refl, []}
use Rattle.std.proofs.Math.Path.{fun_ext}
use Rattle.grid_moves.specs.Layers.{Layers}
use Rattle.script_text.specs.declared.command.ScriptCommand.{ScriptCommand}
use Rattle.script_text.specs.declared.command.ScriptCommand.TheVariants.{Block, Free, Flood, Query}
use Rattle.map_maker.specs.Drill.{drill_commands}
use Rattle.map_maker.specs.Making.{made_map}
use Rattle.grid_moves.specs.Layers.{layers_of}
use Rattle.jps_run.specs.Answers.{in_turn}
use Rattle.jps_run.specs.Drill.{finding_on}
use Rattle.jps_run.specs.Manner.{session_by}
use Rattle.jps_run.specs.Replies.{By}
use Rattle.jps_run.specs.Who.{replies_by}
use Rattle.jps_run.specs.declared.replies.findings.Finding.{Finding}
use Rattle.outcome_laws.specs.Lines.{DrillsAreOne, FindingsAreOne}
use Rattle.outcome_laws.proofs.Replies.{reply_found}

-- a command comes to the same
finding_same : (by other : By) (ls : Layers) (command : ScriptCommand)
    → finding_on (replies_by by) ls command ≡ finding_on (replies_by other) ls command
finding_same by other ls (Query sx sy gx gy) =
    reply_found by other ls (record { x = sx; y = sy }) (record { x = gx; y = gy })
finding_same by other ls (Block x y) = refl
finding_same by other ls (Free x y) = refl
finding_same by other ls (Flood x y) = refl

-- so commands do
pub findings_same : FindingsAreOne
findings_same by other ls commands =
    ap (λ (give : Layers → ScriptCommand → Finding). in_turn give ls [] commands)
    (fun_ext (λ ls. fun_ext (λ command. finding_same by other ls command)))

-- and a drill
pub drills_same : DrillsAreOne
drills_same set other seed rule =
    rw rule (findings_same (session_by set) (session_by other) (layers_of other.rule 256 256
    (made_map seed 256 256 25).cells) (drill_commands seed))
