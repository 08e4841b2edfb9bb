use Rattle.std.proofs.Common.{◌≡◌, ◌∙◌, sym, subst, inr, ℕ, List, [], ◌∷◌, ◌++◌, map, string_bytes}
use Rattle.std.specs.Option.{option_copied}
use Rattle.io_edge.specs.Known.{Held}
use Rattle.call_files.proofs.Opening.{accepted-more, next-file, reading-stops, stops-longer}
use Rattle.call_files.specs.Files.{IsAccepted, file_of}
use Rattle.call_files.specs.MapFiles.{map_files}
use Rattle.call_files.specs.Reading.{open_stops}
use Rattle.call_files.specs.declared.kind.TextKind.TheVariants as kinds
use Rattle.line_work.proofs.Stopping.{passed}
use Rattle.word_list.specs.Kinds.{word_at}
use Rattle.std.specs.Prelude.{Option}
use Rattle.scen_text.specs.Faults.{scen_of}
use Rattle.word_list.specs.Request.{asking}
use Rattle.word_list.specs.declared.rows.Command.TheVariants as command
use Rattle.call_files.specs.Layered.{layers_on}
use Rattle.jps_run.specs.Calls.{call_with, output_of}
use Rattle.jps_run.specs.Counting.{RoseForSearch, Search, search_of}
use Rattle.jps_run.specs.Parts.{Prints, Output}
use Rattle.jps_run.specs.Manner.{picked_by}
use Rattle.jps_run.specs.Answerers.{who_of}
use Rattle.jps_run.specs.Rising.{RoseForEntries}
use Rattle.jps_run.specs.Rows.{rows_of, scen_output}
use Rattle.jps_run.specs.Session.{who_on}
use Rattle.jps_run.specs.Who.{Who, replies_by}
use Rattle.jps_run.proofs.Opening.{both-read, opened-so, work-of}
use Rattle.jps_run.proofs.Tallies.{small_status}
use Rattle.jps_run.proofs.commands.scen.scen.Goals as goal

pub returns-in_err-basis-clause-opened : goal.returns-in_err-basis-clause-opened
returns-in_err-basis-clause-opened g c =
    let ws = map string_bytes c.args.request.words.now in
    let disk = g.F.Files.disk c.args.files.now in
    let now = g.F.Files.disk c.open_basis.new.files in
    let files = map_files c.args.settings (word_at ws 0) (option_copied c.args.request.tables) in
    let last = file_of kinds.Scen (word_at ws 1) in
    opened-so (call_with (asking command.Scen c.args.request) c.args.settings) disk now c.from_residual.result
    (passed _ (open_stops disk now files) (open_stops disk now (files ++ last ∷ []))
    c.from_residual.result
    c.in_err-basis.field-0.0 c.from_residual.ensures.1
    (rw (c.name-map.ensures) at c.in_err-basis.ensures.read)
    (stops-longer disk now files (last ∷ [])))

pub returns-in_err-entries-clause-opened : goal.returns-in_err-entries-clause-opened
returns-in_err-entries-clause-opened g c =
    let ws = map string_bytes c.args.request.words.now in
    let disk = g.F.Files.disk c.args.files.now in
    let files = map_files c.args.settings (word_at ws 0) (option_copied c.args.request.tables) in
    let last = file_of kinds.Scen (word_at ws 1) in
    let made = c.in_ok-basis.ensures in
    let r = rw (c.name-map.ensures) at made.read in
    let texts : List (List ℕ) = r.text ∷ r.loaded in
    opened-so (call_with (asking command.Scen c.args.request) c.args.settings) disk
    (g.F.Files.disk c.read_file.new.files) c.from_residual-in_err-entries.result
    (reading-stops disk _ last (next-file disk.holds files last [] texts r.accepted)
    (g.F.Files.disk c.open_basis.new.files) (g.F.Files.disk c.read_file.new.files) made.unchanged made.later _
    c.from_residual-in_err-entries.result c.in_err-entries.field-0.0
    (rw (c.name-name.ensures) at c.in_err-entries.ensures.read texts tt)
    c.from_residual-in_err-entries.ensures.1)

pub returns-clause-opened : goal.returns-clause-opened
unfolding output_of search_of
returns-clause-opened g c =
    let ws = map string_bytes c.args.request.words.now in
    let files = map_files c.args.settings (word_at ws 0) (option_copied c.args.request.tables) in
    let last = file_of kinds.Scen (word_at ws 1) in
    let made = c.in_ok-basis.ensures in
    let r = rw (c.name-map.ensures) at made.read in
    let texts : List (List ℕ) = r.text ∷ r.loaded in
    let s = rw (c.name-name.ensures) at c.in_ok-entries.ensures.read texts tt in
    let answerer = c.in_ok-answerer.answerer in
    let is : who_of answerer ≡ who_on c.args.settings r.is.map = c.in_ok-answerer.ensures.who ∙ r.is.is.0 in
    let entries = c.in_ok-entries.entries.items in
    let set = c.args.settings in
    let output : Who → Output = λ who. scen_output (replies_by who.by) set.show who.layers entries in
    record {
      texts = r.text ∷ (r.loaded ++ s.text ∷ []);
      accepted = accepted-more (g.F.Files.disk c.args.files.now).holds [] files texts last s.text r.accepted
          (subst (λ (k : List ℕ → Held). IsAccepted texts last.kind (k last.name) s.text) made.unchanged
          s.accepted);
      is = work-of (call_with (asking command.Scen c.args.request) set) _ _ (output (who_on set r.is.map))
          (both-read r.text r.loaded r.is.map s.text scen_of entries _ r.is.spelled s.spelled.0)
          (small_status (rows_of (replies_by (picked_by set)) (layers_on set r.is.map) entries))
          (c.in_ok-answerer.ensures.ready, s.spelled.1, c.new-2.ensures)
          (λ lines status w. subst (λ (who : Who). Prints (output who) lines status) is w)
          (λ old new rose. inr (subst (λ (o : Option Search). RoseForSearch o old new)
          (sym (both-read r.text r.loaded r.is.map s.text scen_of entries _ r.is.spelled s.spelled.0))
          (subst (λ (by : Who). RoseForEntries by entries old new) is rose)));
    }
