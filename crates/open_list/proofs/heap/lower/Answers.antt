use Rattle.std.proofs.Common.{◌≢◌, ◌∙◌, ap, set, refl, arith}
use Rattle.open_list.specs.declared.entry.TheConstants.{NONE}
use Rattle.open_list.proofs.Turns.{root_lowered, beside_lowered, entry_lower, nodes_lowered, flags_lowered}
use Rattle.open_list.proofs.heap.lower.Goals as goal

pub returns-then-id-root-clause-heap : goal.returns-then-id-root-clause-heap
returns-then-id-root-clause-heap g c =
    let before = g.N.Ranked.before in
    let es = c.args.entries.now in
    let some : c.args.root ≢ NONE = λ none. omega (arith, c.requires.heap.all_open.small) in
    rw (c.set_node.ensures, c.if-id-root.true)
    (root_lowered before g.met.N.Ranked.order es c.args.root c.requires.heap some c.args.node
    (rw c.if-id-root.true at (entry_lower before es _ c.args.id c.args.node refl c.requires.lower)))

pub returns-then-id-root-clause-nodes : goal.returns-then-id-root-clause-nodes
returns-then-id-root-clause-nodes g c =
    rw c.set_node.ensures (nodes_lowered c.args.entries.now c.args.id c.args.node)

pub returns-then-id-root-clause-open_at : goal.returns-then-id-root-clause-open_at
returns-then-id-root-clause-open_at g c =
    rw c.set_node.ensures (flags_lowered c.args.entries.now c.args.id c.args.node)

pub insert-requires-clause-beside : goal.insert-requires-clause-beside
insert-requires-clause-beside g c =
    let before = g.N.Ranked.before in
    let some : c.args.id ≢ NONE = λ none. omega (arith, c.requires.heap.all_open.small) in
    rw c.set_node-2.ensures
    (beside_lowered before g.met.N.Ranked.order _ _ _ c.detach.ensures.beside some _
    (entry_lower before _ _ c.args.id c.args.node c.detach.ensures.kept.nodes c.requires.lower))

pub returns-clause-nodes : goal.returns-clause-nodes
returns-clause-nodes g c =
    c.insert.ensures.kept.nodes
    ∙ rw c.set_node-2.ensures (nodes_lowered c.detach.new.entries c.args.id c.args.node)
    ∙ ap (λ ns. set ns c.args.id c.args.node) c.detach.ensures.kept.nodes

pub returns-clause-open_at : goal.returns-clause-open_at
returns-clause-open_at g c =
    c.insert.ensures.kept.open_at
    ∙ rw c.set_node-2.ensures (flags_lowered c.detach.new.entries c.args.id c.args.node)
    ∙ c.detach.ensures.kept.open_at
