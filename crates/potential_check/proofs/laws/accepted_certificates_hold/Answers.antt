use Rattle.potential_check.proofs.Judging.{claim_holds}
use Rattle.potential_check.proofs.laws.accepted_certificates_hold.Goals as goal

pub returns : goal.returns
returns c = λ g certificate is. claim_holds g certificate.start certificate.goal certificate.claim is.claim
