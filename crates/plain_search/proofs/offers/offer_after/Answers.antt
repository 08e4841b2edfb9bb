use Rattle.std.proofs.Common.{◌∙◌}
use Rattle.plain_search.proofs.Expanding.{may_offer, expanded}
use Rattle.plain_search.proofs.offers.offer_after.Goals as goal

pub offer_around-requires-clause-may : goal.offer_around-requires-clause-may
offer_around-requires-clause-may g c =
    may_offer (g.T.Terrain.grid c.args.t.now) c.args.goal c.args.at c.args.node c.cell-cell.result
    c.moves_around-around.result c.less_offered-moves.result c.of.result c.cost_rank.result
    c.cell-cell.ensures c.moves_around-around.ensures.around c.less_offered-moves.ensures c.cost_rank.ensures
    c.args.space.now c.requires.may

pub returns-clause-expanded : goal.returns-clause-expanded
returns-clause-expanded g c =
    expanded (g.T.Terrain.grid c.args.t.now) c.args.goal c.args.at c.args.node c.cell-cell.result
    c.moves_around-around.result c.less_offered-moves.result c.of.result c.cost_rank.result
    c.cell-cell.ensures c.moves_around-around.ensures.around c.less_offered-moves.ensures c.cost_rank.ensures
    c.args.space.now.table c.offer_around.new.space.table c.dir_of_number.result c.of.ensures
    (c.dir_of_number.ensures ∙ c.requires.arrival) c.offer_around.ensures.table
