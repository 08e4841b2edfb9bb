use Rattle.std.proofs.Common.{◌≡◌, refl, subst, inr, ℕ, List, [], map, string_bytes, arith}
use Rattle.map_text.specs.Map.{Map}
use Rattle.map_maker.specs.Drill.{drill_commands}
use Rattle.map_maker.specs.Making.{made_map}
use Rattle.word_list.specs.Kinds.{seed_at}
use Rattle.script_text.specs.declared.command.ScriptCommand.{ScriptCommand}
use Rattle.edit_replay.specs.Session.{SessionData}
use Rattle.word_list.specs.Request.{asking}
use Rattle.word_list.specs.declared.rows.Command.TheVariants as command
use Rattle.jps_run.specs.Calls.{call_with, output_of}
use Rattle.jps_run.specs.Counting.{search_of}
use Rattle.jps_run.specs.Parts.{Prints, printed}
use Rattle.jps_run.specs.Rising.{RoseForCommands}
use Rattle.jps_run.specs.Drill.{drill_line, findings_of}
use Rattle.jps_run.specs.Session.{IsSessionOn, session_replies, session_on}
use Rattle.jps_run.proofs.Opening.{work-of}
use Rattle.jps_run.proofs.Drilling.{few-commands}
use Rattle.jps_run.proofs.commands.drill.drill.Goals as goal

pub returns : goal.returns
unfolding output_of search_of
returns c =
    let set = c.args.settings in
    let session = c.in_ok-session.session in
    let seed = seed_at (map string_bytes c.args.request.words.now) 0 in
    let begun : session ≡ session_on set (made_map seed 256 256 25)
    = rw (← c.seed-seed.ensures)
    (subst (λ (m : Map). IsSessionOn set m session) c.in_ok-map.ensures c.in_ok-session.ensures) in
    let e : c.in_ok-commands.commands.items ≡ drill_commands seed
    = rw (← c.seed-seed.ensures) c.in_ok-commands.ensures in
    let line : SessionData → List ScriptCommand → List ℕ = λ d commands.
    drill_line (findings_of (session_replies d) d.layers commands) in
    work-of (call_with (asking command.Drill c.args.request) set) [] _
    (printed (line (session_on set (made_map seed 256 256 25)) (drill_commands seed)) 0) refl (omega arith)
    (few-commands seed c.in_ok-commands.commands.items e, c.new.ensures)
    (λ lines status w. subst
    (λ (d : SessionData). Prints (printed (line d (drill_commands seed)) 0) lines status) begun
    (subst (λ (some : List ScriptCommand). Prints (printed (line session some) 0) lines status) e w))
    (λ old new rose. inr (subst (λ (d : SessionData). RoseForCommands d (drill_commands seed) old new) begun
    (subst (λ (some : List ScriptCommand). RoseForCommands session some old new) e rose)))
