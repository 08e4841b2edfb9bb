use Rattle.std.proofs.Common.{◌≤◌, sym, subst}
use Rattle.best_first.specs.declared.node.Offer.{Offer}
use Rattle.best_first.specs.Space.{IsPlaced}
use Rattle.best_first.specs.Table.{Table, node_for, ClosedBelow}
use Rattle.best_first.proofs.Tables.{closed_stays}
use Rattle.goal_boxes.proofs.offers.offer_over.Goals as goal

pub offer_by_cell-requires-clause-placed : goal.offer_by_cell-requires-clause-placed
offer_by_cell-requires-clause-placed g c =
    subst (λ (o : Offer). IsPlaced c.args.space.now.width c.args.space.now.places o.to.cell)
    (sym c.offer_to.ensures.value) (c.requires.may c.in-Some.v c.in-Some.is).0

pub returns-in-Some-clause-closed : goal.returns-in-Some-clause-closed
returns-in-Some-clause-closed g c =
    subst (λ (k : Table). ClosedBelow c.args.from.key k) (sym c.offer_by_cell.ensures.table)
    (closed_stays c.args.space.now.layout c.args.from.goal c.offer_to.result c.args.space.now.table
    c.args.from.key
    c.requires.closed (subst (λ (o : Offer). c.args.from.key ≤ (node_for c.args.from.goal o).key)
    (sym c.offer_to.ensures.value) (c.requires.may c.in-Some.v c.in-Some.is).1))
