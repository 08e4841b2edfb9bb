use Rattle.scen_lines.proofs.Short.{cost_readable}
use Rattle.scen_lines.proofs.laws.costs_are_readable.Goals as goal

pub returns : goal.returns
returns c = cost_readable
