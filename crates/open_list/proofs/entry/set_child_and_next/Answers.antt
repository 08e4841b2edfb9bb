use Rattle.open_list.specs.Entry.{with_child_and_next}
use Rattle.open_list.proofs.Changes.{set-changed}
use Rattle.open_list.proofs.entry.set_child_and_next.Goals as goal

pub returns : goal.returns
returns g c =
    set-changed (with_child_and_next c.args.child c.args.next) c.args.entries.now c.args.at
    c.index-entries-at.result
