use Rattle.std.proofs.Common.{arith, refl}
use Rattle.grid_moves.specs.declared.Dir.TheVariants.{N, NE, E, SE, S, SW, W, NW}
use Rattle.grid_moves.proofs.Eight.{all_eight}
use Rattle.cost_waves.specs.Front.{offered, spread}
use Rattle.cost_waves.proofs.Spreading.{fits_ahead}
use Rattle.cost_waves.proofs.front.spread.Goals as goal

pub offer-requires-clause-fits : goal.offer-requires-clause-fits
offer-requires-clause-fits g c = fits_ahead _ c.requires.whole c.args.from.cell _ N _
    (c.moves_around-a.ensures.around N) _ _ _ c.width-width.ensures.is (omega arith) (omega arith)

pub offer-requires-2-clause-fits : goal.offer-requires-2-clause-fits
offer-requires-2-clause-fits g c = fits_ahead _ c.requires.whole c.args.from.cell _ NE _
    (c.moves_around-a.ensures.around NE) _ _ _ c.width-width.ensures.is (omega arith) (omega arith)

pub offer-requires-3-clause-fits : goal.offer-requires-3-clause-fits
offer-requires-3-clause-fits g c = fits_ahead _ c.requires.whole c.args.from.cell _ E _
    (c.moves_around-a.ensures.around E) _ _ _ c.width-width.ensures.is (omega arith) (omega arith)

pub offer-requires-4-clause-fits : goal.offer-requires-4-clause-fits
offer-requires-4-clause-fits g c = fits_ahead _ c.requires.whole c.args.from.cell _ SE _
    (c.moves_around-a.ensures.around SE) _ _ _ c.width-width.ensures.is (omega arith) (omega arith)

pub offer-requires-5-clause-fits : goal.offer-requires-5-clause-fits
offer-requires-5-clause-fits g c = fits_ahead _ c.requires.whole c.args.from.cell _ S _
    (c.moves_around-a.ensures.around S) _ _ _ c.width-width.ensures.is (omega arith) (omega arith)

pub offer-requires-6-clause-fits : goal.offer-requires-6-clause-fits
offer-requires-6-clause-fits g c = fits_ahead _ c.requires.whole c.args.from.cell _ SW _
    (c.moves_around-a.ensures.around SW) _ _ _ c.width-width.ensures.is (omega arith) (omega arith)

pub offer-requires-7-clause-fits : goal.offer-requires-7-clause-fits
offer-requires-7-clause-fits g c = fits_ahead _ c.requires.whole c.args.from.cell _ W _
    (c.moves_around-a.ensures.around W) _ _ _ c.width-width.ensures.is (omega arith) (omega arith)

pub offer-requires-8-clause-fits : goal.offer-requires-8-clause-fits
offer-requires-8-clause-fits g c = fits_ahead _ c.requires.whole c.args.from.cell _ NW _
    (c.moves_around-a.ensures.around NW) _ _ _ c.width-width.ensures.is (omega arith) (omega arith)

pub returns : goal.returns
unfolding spread
returns g c =
    let grid = g.T.Terrain.grid c.args.t.now in
    all_eight grid c.args.from.cell (λ d o f. offered c.width-width.result c.args.limit c.args.from d o f)
    (spread grid c.args.limit c.args.from) (λ f. refl) (λ d dirs f. rw c.width-width.ensures.is refl)
    c.moves_around-a.result c.moves_around-a.ensures.around _ _ _ _ _ _ _ _ _
    c.in_ok-offer.ensures c.in_ok-offer-2.ensures c.in_ok-offer-3.ensures c.in_ok-offer-4.ensures
    c.in_ok-offer-5.ensures c.in_ok-offer-6.ensures c.in_ok-offer-7.ensures c.in_ok-offer-8.ensures
