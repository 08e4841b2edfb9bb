use mir.Syntax.{w32}
use Rattle.std.proofs.Common.{◌≡◌, ◌≤◌, ◌^◌, ℕ, Fits, refl, sym, ap, ◌∙◌, subst, List, [], ◌∷◌, length, arith}
use Rattle.std.specs.Prelude.{Result}
use Rattle.scen_text.specs.declared.entry.Entry.{Entry}
use Rattle.scen_text.specs.declared.fault.ScenFault.{ScenFault}
use Rattle.call_files.specs.Files.{file_of}
use Rattle.call_files.specs.Kinds.{count_in}
use Rattle.call_files.specs.Reading.{SpellsWalks}
use Rattle.call_files.specs.declared.kind.TextKind.TheVariants as kinds
use Rattle.call_files.proofs.Opening.{both-accepted, fell-on, next-file, none-fell, reading-stops}
use Rattle.call_files.proofs.Opening.{third-accepted}
use Rattle.jps_run.proofs.replies.case.read_case.Goals as goal

fits_count : (n many : ℕ) → n ≡ many → many ≤ 2 ^ 26 → Fits w32 n
fits_count n many e few = omega arith

pub overflow_cast-count : goal.overflow_cast-count
overflow_cast-count g c =
    let r = c.in_ok-costs.ensures.read [] tt in
    fits_count c.len.result (length c.in_ok-entries.entries.items)
    (c.len.ensures ∙ c.in_ok-entries.entries.ok.0)
    (c.in_ok-entries.ensures.read (r.text ∷ []) tt).spelled.2

pub returns-in_err-costs-clause-read : goal.returns-in_err-costs-clause-read
returns-in_err-costs-clause-read g c =
    let disk = g.F.Files.disk c.args.files.now in
    let first = file_of kinds.Map c.args.map.now in
    reading-stops disk _ first (next-file disk.holds [] first _ [] tt) disk
    (g.F.Files.disk c.read_map_file.new.files) refl (none-fell disk.faults) _ c.from_residual.result
    c.in_err-costs.field-0.0 (c.in_err-costs.ensures.read [] tt) c.from_residual.ensures.1

pub returns-in_err-entries-clause-read : goal.returns-in_err-entries-clause-read
returns-in_err-entries-clause-read g c =
    let disk = g.F.Files.disk c.args.files.now in
    let first = file_of kinds.Map c.args.map.now in
    let second = file_of kinds.Scen c.args.scen.now in
    let r = c.in_ok-costs.ensures.read [] tt in
    reading-stops disk _ second (next-file disk.holds (first ∷ []) second _ (r.text ∷ []) (r.accepted, tt))
    (g.F.Files.disk c.read_map_file.new.files) (g.F.Files.disk c.read_file.new.files)
    c.in_ok-costs.ensures.unchanged c.in_ok-costs.ensures.later _ c.from_residual-in_err-entries.result
    c.in_err-entries.field-0.0 (c.in_err-entries.ensures.read (r.text ∷ []) tt)
    c.from_residual-in_err-entries.ensures.1

pub returns-in_err-walks-clause-read : goal.returns-in_err-walks-clause-read
returns-in_err-walks-clause-read g c =
    let disk = g.F.Files.disk c.args.files.now in
    let held = (g.F.Files.disk c.read_map_file.new.files).holds in
    let first = file_of kinds.Map c.args.map.now in
    let second = file_of kinds.Scen c.args.scen.now in
    let third = file_of kinds.Walks c.args.walks.now in
    let r = c.in_ok-costs.ensures.read [] tt in
    let s = c.in_ok-entries.ensures.read (r.text ∷ []) tt in
    let both = both-accepted disk.holds held first second r.text s.text r.accepted
    c.in_ok-costs.ensures.unchanged
    s.accepted in
    let counted = c.len.ensures ∙ c.in_ok-entries.entries.ok.0
    ∙ ap (λ (read : Result (List Entry) ScenFault). count_in read) (sym s.spelled.0) in
    reading-stops disk _ third
    (next-file disk.holds (first ∷ second ∷ []) third [] (r.text ∷ s.text ∷ []) both)
    (g.F.Files.disk c.read_file.new.files) (g.F.Files.disk c.read_file-2.new.files)
    (c.in_ok-entries.ensures.unchanged ∙ c.in_ok-costs.ensures.unchanged)
    (fell-on c.in_ok-costs.ensures.later c.in_ok-entries.ensures.later) _ c.from_residual-in_err-walks.result
    c.in_err-walks.field-0.0 (c.in_err-walks.ensures.read (r.text ∷ s.text ∷ []) counted)
    c.from_residual-in_err-walks.ensures.1

pub returns-clause-read : goal.returns-clause-read
returns-clause-read g c =
    let disk = g.F.Files.disk c.args.files.now in
    let held = (g.F.Files.disk c.read_map_file.new.files).holds in
    let r = c.in_ok-costs.ensures.read [] tt in
    let s = c.in_ok-entries.ensures.read (r.text ∷ []) tt in
    let counted = c.len.ensures ∙ c.in_ok-entries.entries.ok.0
    ∙ ap (λ (read : Result (List Entry) ScenFault). count_in read) (sym s.spelled.0) in
    let w = c.in_ok-walks.ensures.read (r.text ∷ s.text ∷ []) counted in
    record {
      text = r.text;
      second = s.text;
      third = w.text;
      accepted = third-accepted disk.holds held (g.F.Files.disk c.read_file.new.files).holds
          (file_of kinds.Map c.args.map.now) (file_of kinds.Scen c.args.scen.now)
          (file_of kinds.Walks c.args.walks.now) r.text s.text w.text r.accepted
          c.in_ok-costs.ensures.unchanged
          s.accepted (c.in_ok-entries.ensures.unchanged ∙ c.in_ok-costs.ensures.unchanged) w.accepted;
      costs = r.spelled;
      entries = s.spelled;
      walks = subst (λ n. SpellsWalks n w.text c.in_ok-walks.walks)
          (c.len.ensures ∙ c.in_ok-entries.entries.ok.0) w.spelled;
    }

pub returns-in_err-costs-clause-unchanged : goal.returns-in_err-costs-clause-unchanged
returns-in_err-costs-clause-unchanged g c = c.in_err-costs.ensures.unchanged

pub returns-in_err-entries-clause-unchanged : goal.returns-in_err-entries-clause-unchanged
returns-in_err-entries-clause-unchanged g c =
    c.in_err-entries.ensures.unchanged ∙ c.in_ok-costs.ensures.unchanged

pub returns-in_err-walks-clause-unchanged : goal.returns-in_err-walks-clause-unchanged
returns-in_err-walks-clause-unchanged g c =
    c.in_err-walks.ensures.unchanged ∙ c.in_ok-entries.ensures.unchanged ∙ c.in_ok-costs.ensures.unchanged

pub returns-clause-unchanged : goal.returns-clause-unchanged
returns-clause-unchanged g c =
    c.in_ok-walks.ensures.unchanged ∙ c.in_ok-entries.ensures.unchanged ∙ c.in_ok-costs.ensures.unchanged
