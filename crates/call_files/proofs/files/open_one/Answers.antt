use Rattle.std.proofs.Common.{refl, []}
use Rattle.call_files.specs.Files.{file_of}
use Rattle.call_files.specs.Reading.{IsMade, IsRead}
use Rattle.call_files.specs.Kinds.{kind_for}
use Rattle.call_files.proofs.Opening.{next-file, none-fell, reading-ends}
use Rattle.call_files.proofs.files.open_one.Goals as goal

pub returns-clause-read : goal.returns-clause-read
returns-clause-read g c =
    let disk = g.F.Files.disk c.args.files.now in
    let file = file_of (kind_for (g.M.OfMap.extent_of c.args.settings)) c.args.map.now in
    reading-ends disk _ file (next-file disk.holds [] file [] [] tt) disk
    (g.F.Files.disk c.read_map_file.new.files) refl (none-fell disk.faults)
    (IsRead (IsMade (g.M.OfMap.is_of_map c.args.settings)) [] (kind_for (g.M.OfMap.extent_of c.args.settings))
    (disk.holds c.args.map.now))
    c.read_map_file.result (c.read_map_file.ensures.read [] tt)
