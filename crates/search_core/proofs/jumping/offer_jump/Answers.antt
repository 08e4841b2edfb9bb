use Rattle.search_core.proofs.Serving.{free_there, ready_on, jumped_on, stays_on}
use Rattle.search_core.proofs.jumping.offer_jump.Goals as goal

pub stop-requires : goal.stop-requires
stop-requires g c =
    let x = c.requires.some.0 in
    let served = c.requires.some.1 in (
      x,
      served.stands,
      free_there c.requires.offering c.args.d c.requires.allowed x served,
      served.to,
    )

pub offer_after-requires-clause-column : goal.offer_after-requires-clause-column
offer_after-requires-clause-column g c =
    (ready_on c.requires.offering c.args.d c.requires.allowed c.requires.some c.in-Some.k
    c.in-Some.ensures.first).1.column

pub offer_after-requires-clause-row : goal.offer_after-requires-clause-row
offer_after-requires-clause-row g c =
    (ready_on c.requires.offering c.args.d c.requires.allowed c.requires.some c.in-Some.k
    c.in-Some.ensures.first).1.row

pub offer_after-requires-clause-rank : goal.offer_after-requires-clause-rank
offer_after-requires-clause-rank g c =
    (ready_on c.requires.offering c.args.d c.requires.allowed c.requires.some c.in-Some.k
    c.in-Some.ensures.first).1.rank

pub offer-requires-clause-placed : goal.offer-requires-clause-placed
offer-requires-clause-placed g c =
    rw c.offer_after.ensures (ready_on c.requires.offering c.args.d c.requires.allowed c.requires.some
    c.in-Some.k c.in-Some.ensures.first).1.placed

pub offer-requires-clause-fits : goal.offer-requires-clause-fits
offer-requires-clause-fits g c =
    rw c.offer_after.ensures (ready_on c.requires.offering c.args.d c.requires.allowed c.requires.some
    c.in-Some.k c.in-Some.ensures.first).1.rank

pub offer-requires-clause-closed : goal.offer-requires-clause-closed
offer-requires-clause-closed g c =
    rw c.offer_after.ensures (ready_on c.requires.offering c.args.d c.requires.allowed c.requires.some
    c.in-Some.k c.in-Some.ensures.first).1.closed

pub returns-in-Some-clause-jumped : goal.returns-in-Some-clause-jumped
returns-in-Some-clause-jumped g c =
    jumped_on c.requires.offering c.args.d c.requires.allowed c.in-Some.k c.in-Some.ensures.first
    c.offer_after.ensures c.offer.ensures.table

pub returns-in_default-clause-jumped : goal.returns-in_default-clause-jumped
returns-in_default-clause-jumped g c =
    stays_on c.requires.offering c.args.d c.requires.allowed c.in_default.ensures.first
