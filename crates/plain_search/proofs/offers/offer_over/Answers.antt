use Rattle.std.proofs.Common.{◌≡◌, ℕ, ◌+◌, ◌≤◌, Bool, true, false, sym, ◌∙◌, ap, subst, refl, arith}
use Rattle.grid_moves.specs.declared.Cell.{Cell}
use Rattle.std.specs.Prelude.{if◌then◌else◌}
use Rattle.best_first.specs.declared.node.Offer.{Offer}
use Rattle.best_first.specs.declared.state.Layout.{Layout}
use Rattle.best_first.specs.declared.state.Layout.TheVariants.{ByCell}
use Rattle.best_first.specs.Space.{IsPlaced}
use Rattle.best_first.specs.Table.{Table, node_for, offered, ClosedBelow}
use Rattle.best_first.proofs.Tables.{closed_stays}
use Rattle.plain_search.proofs.offers.offer_over.Goals as goal

closed_higher : (k : Table) (low high : ℕ) → ClosedBelow low k → low ≤ high → ClosedBelow high k
closed_higher k low high c l = record {
  flags = c.flags;
  below = λ id n h e. let b = c.below id n h e in omega arith;
}

later : (key : ℕ) (goal : Cell) (o p : Offer) → o ≡ p → key ≤ (node_for goal p).key → key ≤ (node_for goal
    o).key
later key goal o p e l = subst (λ (q : Offer). key ≤ (node_for goal q).key) (sym e) l

where_true : (b : Bool) (x y k : Table) → b ≡ true → k ≡ x → k ≡ (if b then x else y)
where_true b x y k e h = rw e h

where_false : (b : Bool) (x y : Table) → b ≡ false → y ≡ (if b then x else y)
where_false b x y e = rw e refl

one_more : (n : ℕ) → n ≤ n + 1
one_more n = omega arith

pub offer_by_cell-requires-clause-placed : goal.offer_by_cell-requires-clause-placed
offer_by_cell-requires-clause-placed g c =
    subst (λ (o : Offer). IsPlaced c.args.space.now.width c.args.space.now.places o.to.cell)
    (sym c.offer_to.ensures.value) (c.requires.may c.if-is_open.true).0

pub offer_by_cell-requires-clause-closed : goal.offer_by_cell-requires-clause-closed
offer_by_cell-requires-clause-closed g c =
    closed_higher c.args.space.now.table c.args.from.key (node_for c.args.from.goal c.offer_to.result).key
    c.requires.closed (later c.args.from.key c.args.from.goal c.offer_to.result _ c.offer_to.ensures.value
    (c.requires.may c.if-is_open.true).1)

pub returns-then-is_open-clause-table : goal.returns-then-is_open-clause-table
returns-then-is_open-clause-table g c =
    where_true c.args.is_open _ _ _ c.if-is_open.true
    (c.offer_by_cell.ensures.table
    ∙ ap (λ (l : Layout). offered l c.args.from.goal c.offer_to.result
    c.args.space.now.table) c.requires.layout
    ∙ ap (λ (o : Offer). offered ByCell c.args.from.goal o c.args.space.now.table) c.offer_to.ensures.value)

pub returns-then-is_open-clause-closed : goal.returns-then-is_open-clause-closed
returns-then-is_open-clause-closed g c =
    subst (λ (k : Table). ClosedBelow c.args.from.key k) (sym c.offer_by_cell.ensures.table)
    (closed_stays c.args.space.now.layout c.args.from.goal c.offer_to.result c.args.space.now.table
    c.args.from.key c.requires.closed
    (later c.args.from.key c.args.from.goal c.offer_to.result _ c.offer_to.ensures.value
    (c.requires.may c.if-is_open.true).1))

pub returns-then-is_open-clause-shape : goal.returns-then-is_open-clause-shape
returns-then-is_open-clause-shape g c = c.offer_by_cell.ensures.shape

pub returns-then-is_open-clause-spare : goal.returns-then-is_open-clause-spare
returns-then-is_open-clause-spare g c = c.offer_by_cell.ensures.spare

pub returns-else-is_open-clause-table : goal.returns-else-is_open-clause-table
returns-else-is_open-clause-table g c = where_false c.args.is_open _ _ c.if-is_open.false

pub returns-else-is_open-clause-shape : goal.returns-else-is_open-clause-shape
returns-else-is_open-clause-shape g c = record { layout = refl; places = refl; width = refl }

pub returns-else-is_open-clause-spare : goal.returns-else-is_open-clause-spare
returns-else-is_open-clause-spare g c = one_more c.args.space.now.spare
