use Rattle.open_list.specs.Entry.{with_next}
use Rattle.open_list.proofs.Changes.{set-changed}
use Rattle.open_list.proofs.entry.set_next.Goals as goal

pub returns : goal.returns
returns g c = set-changed (with_next c.args.next) c.args.entries.now c.args.at c.index-entries-at.result
