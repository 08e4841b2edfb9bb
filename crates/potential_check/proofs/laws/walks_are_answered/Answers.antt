use Rattle.potential_check.proofs.Walks.{walks_are_answered}
use Rattle.potential_check.proofs.laws.walks_are_answered.Goals as goal

pub returns : goal.returns
returns c = walks_are_answered
