use Rattle.std.proofs.Common.{◌∙◌}
use Rattle.scen_maker.proofs.Searching.{found_cost}
use Rattle.scen_maker.proofs.costs.LeastCosts.between.Goals as goal

pub returns-clause-least : goal.returns-clause-least
returns-clause-least g c =
    c.cost_in.ensures
    ∙ found_cost c.self.inside.session.layers c.args.self.now c.args.from c.args.to c.from-sx.result
    c.from-sy.result c.from-gx.result c.from-gy.result c.in_ok-reply.reply
    c.self.view_is c.from-sx.ensures c.from-sy.ensures c.from-gx.ensures
    c.from-gy.ensures c.requires.inside c.requires.free c.in_ok-reply.ensures.right
