use Rattle.potential_make.proofs.Making.{certified}
use Rattle.potential_make.proofs.laws.certificates_are_accepted.Goals as goal

pub returns : goal.returns
returns c = certified
