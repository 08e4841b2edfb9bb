use Rattle.problem_maker.proofs.Insertion.{order_is}
use Rattle.problem_maker.proofs.laws.order_is_found.Goals as goal

pub returns : goal.returns
returns c = order_is
