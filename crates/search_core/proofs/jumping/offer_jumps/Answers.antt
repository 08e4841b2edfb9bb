use Rattle.search_core.proofs.jumping.offer_jumps.Goals as goal

pub offer_all-requires-clause-offering : goal.offer_all-requires-clause-offering
offer_all-requires-clause-offering g c = rw c.in-ByCell.is at c.requires.offering

pub offer_all-requires-in-ByArrival-clause-offering : goal.offer_all-requires-in-ByArrival-clause-offering
offer_all-requires-in-ByArrival-clause-offering g c = rw c.in-ByArrival.is at c.requires.offering
