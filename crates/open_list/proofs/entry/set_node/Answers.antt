use Rattle.open_list.specs.Entry.{with_node}
use Rattle.open_list.proofs.Changes.{set-changed}
use Rattle.open_list.proofs.entry.set_node.Goals as goal

pub returns : goal.returns
returns g c = set-changed (with_node c.args.node) c.args.entries.now c.args.at c.index-entries-at.result
