use Rattle.std.proofs.Common.{refl, [], ◌∷◌}
use Rattle.call_files.specs.Files.{file_of}
use Rattle.call_files.specs.Kinds.{kind_for}
use Rattle.call_files.proofs.Opening.{both-accepted, next-file, none-fell, reading-stops}
use Rattle.call_files.proofs.files.open_two.Goals as goal

pub returns-in_err-made-clause-read : goal.returns-in_err-made-clause-read
returns-in_err-made-clause-read g c =
    let disk = g.F.Files.disk c.args.files.now in
    let file = file_of (kind_for (g.M.OfMap.extent_of c.args.settings)) c.args.map.now in
    reading-stops disk _ file (next-file disk.holds [] file _ [] tt) disk
    (g.F.Files.disk c.read_map_file.new.files) refl (none-fell disk.faults) _ c.from_residual.result
    c.in_err-made.field-0.0 (c.in_err-made.ensures.read [] tt) c.from_residual.ensures.1

pub returns-in_err-text-clause-read : goal.returns-in_err-text-clause-read
returns-in_err-text-clause-read g c =
    let disk = g.F.Files.disk c.args.files.now in
    let first = file_of (kind_for (g.M.OfMap.extent_of c.args.settings)) c.args.map.now in
    let second = file_of (g.T.Text.kind_of_text c.args.context.now) c.args.second.now in
    let r = c.in_ok-made.ensures.read [] tt in
    reading-stops disk _ second (next-file disk.holds (first ∷ []) second [] (r.text ∷ []) (r.accepted, tt))
    (g.F.Files.disk c.read_map_file.new.files) (g.F.Files.disk c.read_file.new.files)
    c.in_ok-made.ensures.unchanged c.in_ok-made.ensures.later _ c.from_residual-in_err-text.result
    c.in_err-text.field-0.0 (c.in_err-text.ensures.read (r.text ∷ []) (c.requires r.text))
    c.from_residual-in_err-text.ensures.1

pub returns-clause-read : goal.returns-clause-read
returns-clause-read g c =
    let disk = g.F.Files.disk c.args.files.now in
    let first = file_of (kind_for (g.M.OfMap.extent_of c.args.settings)) c.args.map.now in
    let second = file_of (g.T.Text.kind_of_text c.args.context.now) c.args.second.now in
    let r = c.in_ok-made.ensures.read [] tt in
    let s = c.in_ok-text.ensures.read (r.text ∷ []) (c.requires r.text) in
    record {
      text = r.text;
      more = s.text;
      accepted = both-accepted disk.holds (g.F.Files.disk c.read_map_file.new.files).holds first second
          r.text s.text
          r.accepted c.in_ok-made.ensures.unchanged s.accepted;
      spelled = r.spelled;
      spelled_more = s.spelled;
    }
