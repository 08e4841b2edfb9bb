use Rattle.std.proofs.Common.{◌≡◌, ◌∙◌, ◌-◌, ◌<◌, sym, ap, subst, length, arith}
use Rattle.std.proofs.lemmas.Option.{slice_get_within}
use Rattle.std.specs.Prelude.{slice_get, None}
use Rattle.grid_moves.specs.declared.Cell.{Cell}
use Rattle.grid_moves.specs.Grid.{cell_number}
use Rattle.best_first.specs.declared.place.Place.{Place}
use Rattle.best_first.specs.declared.node.Offer.{Offer}
use Rattle.best_first.specs.declared.state.State.{State}
use Rattle.best_first.specs.declared.node.Node.{Node}
use Rattle.best_first.specs.Node.{state_of}
use Rattle.best_first.specs.Space.{SpaceData, IsPlaced}
use Rattle.best_first.specs.State.{state_in, state_of_place, place_of}
use Rattle.best_first.specs.Table.{lookup, node_for}
use Rattle.best_first.proofs.Lookup.{lookup-found}
use Rattle.best_first.proofs.Mirrors.{some_node}
use Rattle.best_first.proofs.Parts.{node_state}
use Rattle.best_first.proofs.States.{place-again}
use Rattle.best_first.proofs.Tables.{entry_none, entry_some, open_of}
use Rattle.best_first.proofs.space.Space.offer.Goals as goal

pub node-requires : goal.node-requires
node-requires g c =
    let s = c.args.self.now in
    let l = entry_some (lookup s.layout s.table.nodes (state_in s.layout c.args.offer.to)) c.find-entry.result
    c.find-entry.ensures c.if-entry-eq0.false in
    let f = lookup-found s.layout s.table.nodes (state_in s.layout c.args.offer.to) (c.find-entry.result - 1)
    l in
    let within = slice_get_within s.table.nodes (c.find-entry.result - 1) f.node f.node_is in
    subst (λ (d : SpaceData). c.find-entry.result - 1 < length d.table.nodes) (sym c.self.view_is) within

pub lower_parts-requires-clause-is_open : goal.lower_parts-requires-clause-is_open
lower_parts-requires-clause-is_open g c =
    let s = c.args.self.now in
    let key : (node_for c.args.goal c.args.offer).key < c.node.result.now.key =
    subst (λ (n : Node). n.key < c.node.result.now.key) c.node_for-node.ensures c.if-node.true in
    open_of (node_for c.args.goal c.args.offer).key s.table c.requires.closed (c.find-entry.result - 1)
    c.node.result.now
    (ap (λ (d : SpaceData). slice_get d.table.nodes (c.find-entry.result - 1)) (sym c.self.view_is)
    ∙ c.node.ensures) key

pub lower_parts-requires-clause-same : goal.lower_parts-requires-clause-same
lower_parts-requires-clause-same g c = λ old h.
    let s = c.args.self.now in
    let l = entry_some (lookup s.layout s.table.nodes (state_in s.layout c.args.offer.to)) c.find-entry.result
    c.find-entry.ensures c.if-entry-eq0.false in
    let f = lookup-found s.layout s.table.nodes (state_in s.layout c.args.offer.to) (c.find-entry.result - 1)
    l in
    let made : state_of s.layout c.node_for-node.result ≡ state_in s.layout c.args.offer.to =
    node_state s.layout s.width s.places c.node_for-node.result c.args.offer.to c.requires.narrow
    c.requires.placed (ap (λ (n : Node). n.place) c.node_for-node.ensures) in
    ap (λ (n : Node). state_of s.layout n) (some_node old f.node (sym h ∙ f.node_is)) ∙ f.state ∙ sym made

-- what stands in the node's place is the state that is offered
offered_again : (goal : Cell) (o : Offer) (n : Node) → o.to.cell.x < 4096 → n ≡ node_for goal o
    → state_of_place n.place ≡ o.to
offered_again goal o n column made = ap (λ (p : Place). state_of_place p) (ap (λ (n : Node). n.place) made)
    ∙ place-again o.to column

pub add_parts-requires-clause-placed : goal.add_parts-requires-clause-placed
add_parts-requires-clause-placed g c =
    let p = c.requires.placed in
    let again = offered_again c.args.goal c.args.offer c.node_for-node.result
    (omega (arith, p.column, c.requires.narrow)) c.node_for-node.ensures in
    let s = c.args.self.now in
    subst (λ (t : State). IsPlaced s.width s.places t.cell) (sym again) p

pub add_parts-requires-clause-number : goal.add_parts-requires-clause-number
add_parts-requires-clause-number g c =
    let again = offered_again c.args.goal c.args.offer c.node_for-node.result
    (omega (arith, c.requires.placed.column, c.requires.narrow)) c.node_for-node.ensures in
    let number = c.number_of-number.ensures in
    subst (λ (t : State). c.number_of-number.result ≡ cell_number c.args.self.now.width t.cell) (sym again)
    (subst (λ (d : SpaceData). c.number_of-number.result ≡ cell_number d.width c.args.offer.to.cell)
    c.self.view_is number)

pub add_parts-requires-clause-made : goal.add_parts-requires-clause-made
add_parts-requires-clause-made g c =
    let again = offered_again c.args.goal c.args.offer c.node_for-node.result
    (omega (arith, c.requires.placed.column, c.requires.narrow)) c.node_for-node.ensures in
    ap (λ (n : Node). n.place) c.node_for-node.ensures ∙ ap place_of (sym again)

pub add_parts-requires-clause-new : goal.add_parts-requires-clause-new
add_parts-requires-clause-new g c =
    let s = c.args.self.now in
    let again = offered_again c.args.goal c.args.offer c.node_for-node.result
    (omega (arith, c.requires.placed.column, c.requires.narrow)) c.node_for-node.ensures in
    subst (λ (t : State). lookup s.layout s.table.nodes (state_in s.layout t) ≡ None) (sym again)
    (entry_none (lookup s.layout s.table.nodes (state_in s.layout c.args.offer.to)) c.find-entry.result
    c.find-entry.ensures c.if-entry-eq0.true)
