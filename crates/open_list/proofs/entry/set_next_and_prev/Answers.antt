use Rattle.open_list.specs.Entry.{with_next_and_prev}
use Rattle.open_list.proofs.Changes.{set-changed}
use Rattle.open_list.proofs.entry.set_next_and_prev.Goals as goal

pub returns : goal.returns
returns g c =
    set-changed (with_next_and_prev c.args.next c.args.prev) c.args.entries.now c.args.at
    c.index-entries-at.result
