use Rattle.std.proofs.Common.{◌∙◌, sym, refl}
use Rattle.std.specs.Prelude.{Ok, Err}
use Rattle.potential_check.specs.Accepted.{proof_of}
use Rattle.potential_check.proofs.Judging.{answer_tells, certificates_are_answered}
use Rattle.potential_check.proofs.checking.check.Goals as goal

pub returns : goal.returns
returns c =
    let g = c.args.g.now in
    let cert = c.args.c.now in
    let e = c.answer.ensures in
    let says = answer_tells g cert c.answer.result
    ((certificates_are_answered g cert c.answer.result).1 (sym e)) in
    record {
      proves = says.holds;
      ok = says.ok;
      accepts = λ is. e ∙ (certificates_are_answered g cert (Ok (proof_of cert.claim))).0 (is, refl);
      err = says.err;
      refuses = λ why is. e ∙ (certificates_are_answered g cert (Err why)).0 is;
      is = e;
    }
