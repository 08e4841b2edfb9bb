use Rattle.scen_maker.proofs.Searching.{settled_is}
use Rattle.scen_maker.proofs.laws.queries_are_settled.Goals as goal

pub returns : goal.returns
returns c = settled_is
