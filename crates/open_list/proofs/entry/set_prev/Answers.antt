use Rattle.std.proofs.Common.{arith}
use Rattle.open_list.specs.Entry.{with_prev}
use Rattle.open_list.proofs.Changes.{set-changed, changed_past}
use Rattle.open_list.proofs.entry.set_prev.Goals as goal

pub returns-then-at-entries : goal.returns-then-at-entries
returns-then-at-entries g c = set-changed
    (with_prev c.args.prev) c.args.entries.now c.args.at c.index-entries-at.result

pub returns-else-at-entries : goal.returns-else-at-entries
returns-else-at-entries g c = grind (arith, changed_past)
