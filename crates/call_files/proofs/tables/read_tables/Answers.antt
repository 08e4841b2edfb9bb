use Rattle.map_text.specs.Faults.{plain}
use Rattle.call_files.proofs.Readings.{tables-read}
use Rattle.call_files.proofs.tables.read_tables.Goals as goal

pub returns-clause-read : goal.returns-clause-read
returns-clause-read g c =
    let m = plain c.args.map.now in
    let disk = g.F.Files.disk c.args.files.now in
    tables-read c.args.settings.rule m c.in_ok-layers.layers (disk.holds c.args.name.now)
    (disk.faults c.args.name.now) ((g.F.Files.disk c.read_file.new.files).faults c.args.name.now)
    c.read_file.result c.in_ok-layers.ensures c.read_file.ensures.read
