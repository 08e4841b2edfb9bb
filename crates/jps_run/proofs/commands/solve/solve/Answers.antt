use Rattle.std.proofs.Common.{◌≡◌, ◌∙◌, ap, sym, inr, subst, ℕ, List, [], ◌∷◌, ◌++◌, map, string_bytes, arith}
use Rattle.std.specs.Option.{option_copied}
use Rattle.io_edge.specs.Known.{Held}
use Rattle.call_files.proofs.Opening.{accepted-more, next-file, reading-stops, stops-longer}
use Rattle.call_files.specs.Files.{IsAccepted, file_of}
use Rattle.call_files.specs.MapFiles.{map_files}
use Rattle.call_files.specs.Reading.{open_stops}
use Rattle.call_files.specs.declared.kind.TextKind.TheVariants as kinds
use Rattle.line_work.proofs.Stopping.{passed}
use Rattle.word_list.specs.Kinds.{word_at}
use Rattle.word_list.specs.declared.request.Show.{Show}
use Rattle.std.specs.Prelude.{Option}
use Rattle.edit_replay.specs.Session.{SessionData}
use Rattle.script_text.specs.Faults.{script_of}
use Rattle.word_list.specs.Request.{asking}
use Rattle.word_list.specs.declared.rows.Command.TheVariants as command
use Rattle.call_files.specs.Layered.{layers_on}
use Rattle.jps_run.specs.Answers.{solve_output}
use Rattle.jps_run.specs.Calls.{call_with, output_of}
use Rattle.jps_run.specs.Counting.{RoseForSearch, Search, search_of}
use Rattle.jps_run.specs.Parts.{Prints}
use Rattle.jps_run.specs.Manner.{session_by}
use Rattle.jps_run.specs.Rising.{RoseForCommands}
use Rattle.jps_run.specs.Session.{session_replies}
use Rattle.jps_run.specs.Who.{replies_by}
use Rattle.jps_run.specs.declared.work.Work.TheVariants as work
use Rattle.jps_run.proofs.Opening.{both-read, opened-so, work-of}
use Rattle.jps_run.proofs.commands.solve.solve.Goals as goal

pub returns-in_err-job-clause-opened : goal.returns-in_err-job-clause-opened
returns-in_err-job-clause-opened g c =
    let ws = map string_bytes c.args.request.words.now in
    let disk = g.F.Files.disk c.args.files.now in
    let now = g.F.Files.disk c.open_answers.new.files in
    let files = map_files c.args.settings (word_at ws 0) (option_copied c.args.request.tables) in
    let last = file_of kinds.Script (word_at ws 1) in
    opened-so (call_with (asking command.Solve c.args.request) c.args.settings) disk now
    c.from_residual.result
    (passed _ (open_stops disk now files) (open_stops disk now (files ++ last ∷ []))
    c.from_residual.result
    c.in_err-job.field-0.0 c.from_residual.ensures.1 (rw (c.name-map.ensures) at c.in_err-job.ensures.read)
    (stops-longer disk now files (last ∷ [])))

pub returns-in_err-commands-clause-opened : goal.returns-in_err-commands-clause-opened
returns-in_err-commands-clause-opened g c =
    let ws = map string_bytes c.args.request.words.now in
    let disk = g.F.Files.disk c.args.files.now in
    let files = map_files c.args.settings (word_at ws 0) (option_copied c.args.request.tables) in
    let last = file_of kinds.Script (word_at ws 1) in
    let made = c.in_ok-job.ensures in
    let r = rw (c.name-map.ensures) at made.read in
    let texts : List (List ℕ) = r.text ∷ r.loaded in
    opened-so (call_with (asking command.Solve c.args.request) c.args.settings) disk
    (g.F.Files.disk c.read_file.new.files) c.from_residual-in_err-commands.result
    (reading-stops disk _ last (next-file disk.holds files last [] texts r.accepted)
    (g.F.Files.disk c.open_answers.new.files) (g.F.Files.disk c.read_file.new.files)
    made.unchanged made.later _
    c.from_residual-in_err-commands.result c.in_err-commands.field-0.0
    (rw (c.name-script.ensures) at c.in_err-commands.ensures.read texts tt)
    c.from_residual-in_err-commands.ensures.1)

pub returns-clause-opened : goal.returns-clause-opened
unfolding output_of search_of
returns-clause-opened g c =
    let ws = map string_bytes c.args.request.words.now in
    let files = map_files c.args.settings (word_at ws 0) (option_copied c.args.request.tables) in
    let last = file_of kinds.Script (word_at ws 1) in
    let made = c.in_ok-job.ensures in
    let r = rw (c.name-map.ensures) at made.read in
    let texts : List (List ℕ) = r.text ∷ r.loaded in
    let s = rw (c.name-script.ensures) at c.in_ok-commands.ensures.read texts tt in
    let job = c.in_ok-job.job in
    let commands = c.in_ok-commands.commands.items in
    let whole : Prints (solve_output (session_replies job.session) job.show job.session.layers commands)
    ≡ Prints (solve_output (replies_by (session_by c.args.settings)) c.args.settings.show
    (layers_on c.args.settings r.is.map) commands) =
    ap (λ (d : SessionData). Prints
    (solve_output (session_replies d) job.show d.layers commands)) r.is.is.session
    ∙ ap (λ (show : Show). Prints (solve_output (replies_by (session_by c.args.settings)) show
    (layers_on c.args.settings r.is.map) commands)) r.is.is.show in
    record {
      texts = r.text ∷ (r.loaded ++ s.text ∷ []);
      accepted = accepted-more (g.F.Files.disk c.args.files.now).holds [] files texts last s.text r.accepted
          (subst (λ (k : List ℕ → Held). IsAccepted texts last.kind (k last.name) s.text) made.unchanged
          s.accepted);
      is = work-of (call_with (asking command.Solve c.args.request) c.args.settings) _
          (work.Answer job c.in_ok-commands.commands)
          (solve_output (replies_by (session_by c.args.settings)) c.args.settings.show
          (layers_on c.args.settings r.is.map) commands)
          (both-read r.text r.loaded r.is.map s.text script_of commands _ r.is.spelled
          s.spelled) (omega arith) tt
          (λ lines status w. subst (λ (P : List (List ℕ) → ℕ → Type 0). P lines status) whole w)
          (λ old new rose. inr (subst (λ (o : Option Search). RoseForSearch o old new)
          (sym (both-read r.text r.loaded r.is.map s.text script_of commands _ r.is.spelled s.spelled))
          (subst (λ (d : SessionData). RoseForCommands d commands old new) r.is.is.session rose)));
    }
