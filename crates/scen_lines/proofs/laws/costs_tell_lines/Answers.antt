use Rattle.scen_lines.proofs.Costs.{listed_one}
use Rattle.scen_lines.proofs.laws.costs_tell_lines.Goals as goal

pub returns : goal.returns
returns c = listed_one
