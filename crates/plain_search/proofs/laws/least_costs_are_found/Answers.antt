use Rattle.plain_search.proofs.LeastCosts.{costs_are}
use Rattle.plain_search.proofs.laws.least_costs_are_found.Goals as goal

pub returns : goal.returns
returns c = costs_are
