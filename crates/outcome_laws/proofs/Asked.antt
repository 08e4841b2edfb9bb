-- What is printed where costs alone are asked for, whatever engines are picked.
use Rattle.std.proofs.Common.{◌≡◌, ◌∙◌, ap, refl, ℕ, false, List}
use Rattle.std.specs.Prelude.{Some}
use Rattle.std.proofs.Math.Path.{fun_ext}
use Rattle.grid_moves.specs.Layers.{Layers}
use Rattle.scen_text.specs.Faults.{scen_of}
use Rattle.scen_text.specs.declared.entry.Entry.{Entry}
use Rattle.word_list.specs.Kinds.{seed_at}
use Rattle.word_list.specs.declared.request.Settings.{Settings}
use Rattle.word_list.specs.declared.request.Show.{Show}
use Rattle.word_list.specs.declared.rows.Command.{Command}
use Rattle.word_list.specs.declared.rows.Command.TheVariants.{Drill, Scen}
use Rattle.jps_run.specs.Calls.{reads_input, task}
use Rattle.jps_run.specs.Drill.{drill_line}
use Rattle.jps_run.specs.Parts.{Output, on_last, on_map, on_read, printed}
use Rattle.call_files.specs.Layered.{grids_under}
use Rattle.jps_run.specs.Manner.{picked_by, manner_of}
use Rattle.jps_run.specs.Replies.{By}
use Rattle.jps_run.specs.Rows.{rows_of, scen_lines, scen_output, scen_status}
use Rattle.jps_run.specs.Who.{replies_by}
use Rattle.jps_run.specs.declared.replies.findings.Finding.{Finding}
use Rattle.outcome_laws.specs.Outcomes.{AsksForCosts}
use Rattle.outcome_laws.proofs.Findings.{drills_same}
use Rattle.outcome_laws.proofs.Rows.{rows_alike}

-- such a command does not read what comes in
pub silent_for : (command : Command) (show : Show) → AsksForCosts command show → reads_input command ≡ false
silent_for Scen show costs = refl
silent_for Drill show costs = refl
silent_for other show costs = absurd costs

-- what is printed of a scenario
scen_same : (by other : By) (show : Show) → AsksForCosts Scen show → (ls : Layers) (entries : List Entry)
    → scen_output (replies_by by) show ls entries ≡ scen_output (replies_by other) show ls entries
scen_same by other show costs ls entries =
    let d = rows_alike by other ls entries in
    let output : List (List ℕ) → ℕ → Output = λ lines status. record { lines = lines; status = status } in
    ap (λ (lines : List (List ℕ)). output lines (scen_status (rows_of (replies_by by) ls entries)))
    (d.lines show costs)
    ∙ ap (λ (status : ℕ). output (scen_lines show (rows_of (replies_by other) ls entries)) status) d.status

-- so it is with all that is printed
pub cost_output : (words : List (List ℕ)) (command : Command) (set other : Settings) → set.show ≡ other.show
    → set.rule ≡ other.rule → AsksForCosts command set.show → (texts : List (List ℕ))
    → (task command words).output (manner_of replies_by set) texts
    ≡ (task command words).output (manner_of replies_by other) texts
cost_output words Scen set other show rule costs texts =
    ap (λ (give : Layers → List Entry → Output). on_map texts (λ m behind. on_last behind (λ second.
    on_read (scen_of second) (λ entries. Some (give (grids_under set.rule m) entries)))))
    (fun_ext (λ ls. fun_ext
    (λ entries. scen_same (picked_by set) (picked_by other) set.show costs ls entries)))
    ∙ rw (show, rule) refl
cost_output words Drill set other show rule costs texts =
    ap (λ (found : List Finding). Some (printed (drill_line found) 0)) (drills_same set other
    (seed_at words 0) rule)
cost_output words apart set other show rule costs texts = absurd costs
