use Rattle.scen_maker.proofs.Posed.{problems_least}
use Rattle.scen_maker.proofs.laws.problems_cost_least.Goals as goal

pub returns : goal.returns
returns c = problems_least
