use Rattle.potential_check.proofs.Judging.{certificates_are_answered}
use Rattle.potential_check.proofs.laws.certificates_are_answered.Goals as goal

pub returns : goal.returns
returns c = certificates_are_answered
