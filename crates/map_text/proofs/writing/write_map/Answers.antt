use Rattle.map_text.specs.Faults.{plain}
use Rattle.map_text.proofs.Canonical.{canonical_spells, length-canonical}
use Rattle.map_text.proofs.writing.write_map.Goals as goal

pub returns-clause-spelled : goal.returns-clause-spelled
returns-clause-spelled c = canonical_spells (plain c.args.map.now) c.args.map.now.whole

pub returns-clause-short : goal.returns-clause-short
returns-clause-short c = length-canonical (plain c.args.map.now) c.args.map.now.whole
