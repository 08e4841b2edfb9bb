use Rattle.std.proofs.Common.{◌∙◌, ap}
use Rattle.grid_answers.specs.Certificates.{verdict_line, verdict_status}
use Rattle.grid_answers.proofs.check.verdict.Goals as goal

pub returns-in_ok-proof_line-in-Ok : goal.returns-in_ok-proof_line-in-Ok
returns-in_ok-proof_line-in-Ok c = record {
  text = c.in_ok-proof_line-in-Ok.ensures ∙ ap verdict_line c.in-Ok.ensures.is;
  status = ap verdict_status c.in-Ok.ensures.is;
}

pub returns-in_ok-reject_line-in-Err : goal.returns-in_ok-reject_line-in-Err
returns-in_ok-reject_line-in-Err c = record {
  text = c.in_ok-reject_line-in-Err.ensures ∙ ap verdict_line c.in-Err.ensures.is;
  status = ap verdict_status c.in-Err.ensures.is;
}
