use Rattle.std.proofs.Common.{◌∙◌, refl, [], ◌∷◌}
use Rattle.map_text.specs.Faults.{plain}
use Rattle.call_files.specs.Files.{file_of}
use Rattle.call_files.specs.declared.kind.TextKind.TheVariants as kinds
use Rattle.call_files.proofs.Opening.{both-accepted, fell-on, next-file, none-fell, reading-stops}
use Rattle.jps_run.proofs.replies.opening.open_loaded.Goals as goal

pub returns-in_err-map-clause-read : goal.returns-in_err-map-clause-read
returns-in_err-map-clause-read g c =
    let disk = g.F.Files.disk c.args.files.now in
    let first = file_of kinds.Map c.args.map.now in
    reading-stops disk _ first (next-file disk.holds [] first _ [] tt) disk
    (g.F.Files.disk c.read_file.new.files) refl (none-fell disk.faults) _ c.from_residual.result
    c.in_err-map.field-0.0 (c.in_err-map.ensures.read [] tt) c.from_residual.ensures.1

pub returns-in_err-tables-clause-read : goal.returns-in_err-tables-clause-read
returns-in_err-tables-clause-read g c =
    let disk = g.F.Files.disk c.args.files.now in
    let first = file_of kinds.Map c.args.map.now in
    let second = file_of (kinds.Tables c.args.settings.rule) c.args.name.now in
    let r = c.in_ok-map.ensures.read [] tt in
    reading-stops disk _ second (next-file disk.holds (first ∷ []) second [] (r.text ∷ []) (r.accepted, tt))
    (g.F.Files.disk c.read_file.new.files) (g.F.Files.disk c.read_tables.new.files)
    c.in_ok-map.ensures.unchanged c.in_ok-map.ensures.later _ c.from_residual-in_err-tables.result
    c.in_err-tables.field-0.0 (c.in_err-tables.ensures.read (r.text ∷ []) r.spelled.0)
    c.from_residual-in_err-tables.ensures.1

pub session_with-requires-clause-tables : goal.session_with-requires-clause-tables
session_with-requires-clause-tables g c =
    let r = c.in_ok-map.ensures.read [] tt in
    (c.in_ok-tables.ensures.read (r.text ∷ []) r.spelled.0).spelled

pub returns-clause-read : goal.returns-clause-read
returns-clause-read g c =
    let disk = g.F.Files.disk c.args.files.now in
    let first = file_of kinds.Map c.args.map.now in
    let second = file_of (kinds.Tables c.args.settings.rule) c.args.name.now in
    let r = c.in_ok-map.ensures.read [] tt in
    let s = c.in_ok-tables.ensures.read (r.text ∷ []) r.spelled.0 in
    record {
      text = r.text;
      loaded = s.text ∷ [];
      accepted = both-accepted disk.holds (g.F.Files.disk c.read_file.new.files).holds first second
          r.text s.text
          r.accepted c.in_ok-map.ensures.unchanged s.accepted;
      is = record { map = plain c.in_ok-map.map; spelled = r.spelled.0; is = c.in_ok-session.ensures };
    }

pub returns-in_err-map-clause-unchanged : goal.returns-in_err-map-clause-unchanged
returns-in_err-map-clause-unchanged g c = c.in_err-map.ensures.unchanged

pub returns-in_err-map-clause-later : goal.returns-in_err-map-clause-later
returns-in_err-map-clause-later g c = c.in_err-map.ensures.later

pub returns-in_err-tables-clause-unchanged : goal.returns-in_err-tables-clause-unchanged
returns-in_err-tables-clause-unchanged g c =
    c.in_err-tables.ensures.unchanged ∙ c.in_ok-map.ensures.unchanged

pub returns-in_err-tables-clause-later : goal.returns-in_err-tables-clause-later
returns-in_err-tables-clause-later g c = fell-on c.in_ok-map.ensures.later c.in_err-tables.ensures.later

pub returns-in_err-session-clause-unchanged : goal.returns-in_err-session-clause-unchanged
returns-in_err-session-clause-unchanged g c =
    c.in_ok-tables.ensures.unchanged ∙ c.in_ok-map.ensures.unchanged

pub returns-in_err-session-clause-later : goal.returns-in_err-session-clause-later
returns-in_err-session-clause-later g c = fell-on c.in_ok-map.ensures.later c.in_ok-tables.ensures.later

pub returns-clause-unchanged : goal.returns-clause-unchanged
returns-clause-unchanged g c = c.in_ok-tables.ensures.unchanged ∙ c.in_ok-map.ensures.unchanged

pub returns-clause-later : goal.returns-clause-later
returns-clause-later g c = fell-on c.in_ok-map.ensures.later c.in_ok-tables.ensures.later
