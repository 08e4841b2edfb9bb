use Rattle.scen_lines.proofs.Costs.{listed_with}
use Rattle.scen_lines.proofs.line.Problem.with_cost.Goals as goal

pub returns : goal.returns
returns c = listed_with c.args.self c.args.cost c.bucket.result c.nearest_length.result c.bucket.ensures
    c.nearest_length.ensures
