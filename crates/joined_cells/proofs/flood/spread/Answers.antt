use Rattle.std.proofs.Common.{arith, refl}
use Rattle.grid_moves.specs.declared.Dir.TheVariants.{N, NE, E, SE, S, SW, W, NW}
use Rattle.grid_moves.proofs.Eight.{all_eight}
use Rattle.joined_cells.specs.Flood.{reached_by, spread}
use Rattle.joined_cells.proofs.Spreading.{fits_ahead}
use Rattle.joined_cells.proofs.flood.spread.Goals as goal

pub reach-requires : goal.reach-requires
reach-requires g c = fits_ahead _ c.requires.whole c.args.from _ N _
    (c.moves_around-a.ensures.around N) _ _ c.width-width.ensures.is (omega arith)

pub reach-requires-2 : goal.reach-requires-2
reach-requires-2 g c = fits_ahead _ c.requires.whole c.args.from _ NE _
    (c.moves_around-a.ensures.around NE) _ _ c.width-width.ensures.is (omega arith)

pub reach-requires-3 : goal.reach-requires-3
reach-requires-3 g c = fits_ahead _ c.requires.whole c.args.from _ E _
    (c.moves_around-a.ensures.around E) _ _ c.width-width.ensures.is (omega arith)

pub reach-requires-4 : goal.reach-requires-4
reach-requires-4 g c = fits_ahead _ c.requires.whole c.args.from _ SE _
    (c.moves_around-a.ensures.around SE) _ _ c.width-width.ensures.is (omega arith)

pub reach-requires-5 : goal.reach-requires-5
reach-requires-5 g c = fits_ahead _ c.requires.whole c.args.from _ S _
    (c.moves_around-a.ensures.around S) _ _ c.width-width.ensures.is (omega arith)

pub reach-requires-6 : goal.reach-requires-6
reach-requires-6 g c = fits_ahead _ c.requires.whole c.args.from _ SW _
    (c.moves_around-a.ensures.around SW) _ _ c.width-width.ensures.is (omega arith)

pub reach-requires-7 : goal.reach-requires-7
reach-requires-7 g c = fits_ahead _ c.requires.whole c.args.from _ W _
    (c.moves_around-a.ensures.around W) _ _ c.width-width.ensures.is (omega arith)

pub reach-requires-8 : goal.reach-requires-8
reach-requires-8 g c = fits_ahead _ c.requires.whole c.args.from _ NW _
    (c.moves_around-a.ensures.around NW) _ _ c.width-width.ensures.is (omega arith)

pub returns : goal.returns
unfolding spread
returns g c =
    let grid = g.T.Terrain.grid c.args.t.now in
    all_eight grid c.args.from (λ d o f. reached_by c.width-width.result c.args.label o f)
    (spread grid c.args.label c.args.from) (λ f. refl) (λ d dirs f. rw c.width-width.ensures.is refl)
    c.moves_around-a.result c.moves_around-a.ensures.around _ _ _ _ _ _ _ _ _
    c.in_ok-reach.ensures c.in_ok-reach-2.ensures c.in_ok-reach-3.ensures c.in_ok-reach-4.ensures
    c.in_ok-reach-5.ensures c.in_ok-reach-6.ensures c.in_ok-reach-7.ensures c.in_ok-reach-8.ensures
