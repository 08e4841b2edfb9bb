use Rattle.problem_maker.proofs.Leading.{leads_is}
use Rattle.problem_maker.proofs.laws.leads_is_found.Goals as goal

pub returns : goal.returns
returns c = leads_is
