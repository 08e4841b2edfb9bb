use Rattle.potential_check.proofs.Judging.{claims_are_answered}
use Rattle.potential_check.proofs.laws.claims_are_answered.Goals as goal

pub returns : goal.returns
returns c = claims_are_answered
