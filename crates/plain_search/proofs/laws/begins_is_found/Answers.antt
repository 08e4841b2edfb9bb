use Rattle.plain_search.proofs.LeastCosts.{begins_is}
use Rattle.plain_search.proofs.laws.begins_is_found.Goals as goal

pub returns : goal.returns
returns c = begins_is
