use Rattle.std.proofs.Common.{◌≢◌, ◌∙◌, arith}
use Rattle.open_list.specs.declared.entry.TheConstants.{NONE}
use Rattle.open_list.proofs.Turns.{root_closed, flags_closed, nodes_closed}
use Rattle.open_list.proofs.heap.take_root.Goals as goal

pub pair_up-pairs-requires : goal.pair_up-pairs-requires
pair_up-pairs-requires g c =
    let some : c.args.root ≢ NONE = λ none. omega (arith, c.requires.heap.all_open.small) in
    rw (c.set_prev.ensures, c.child_of-children.ensures)
    (root_closed g.N.Ranked.before _ _ c.requires.heap some)

pub returns-clause-nodes : goal.returns-clause-nodes
returns-clause-nodes g c =
    c.merge.ensures.kept.nodes ∙ c.pair_up-pairs.ensures.kept.nodes
    ∙ rw c.set_prev.ensures (nodes_closed c.args.entries.now c.args.root)

pub returns-clause-open_at : goal.returns-clause-open_at
returns-clause-open_at g c =
    let some : c.args.root ≢ NONE = λ none. omega (arith, c.requires.heap.all_open.small) in
    c.merge.ensures.kept.open_at ∙ c.pair_up-pairs.ensures.kept.open_at
    ∙ rw c.set_prev.ensures (flags_closed g.N.Ranked.before _ _ c.requires.heap some)
