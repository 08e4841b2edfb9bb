use Rattle.std.proofs.Common.{◌∙◌}
use Rattle.plain_search.proofs.ToAll.{costs_if}
use Rattle.plain_search.proofs.to_all.least_to_all.Goals as goal

pub returns : goal.returns
returns g c = record {
  costs = costs_if (g.T.Terrain.grid c.args.t.now) c.args.from c.pass.new.self
      (c.in_ok-pass.ensures.width ∙ c.in_ok-waves.ensures.width ∙ c.width.ensures.is)
      (c.in_ok-pass.ensures.height ∙ c.in_ok-waves.ensures.height ∙ c.height.ensures.is)
      c.in_ok-pass.ensures.tells (λ v. v.items) c.all_costs.result c.all_costs.ensures.costs
      c.all_costs.ensures.whole;
}
