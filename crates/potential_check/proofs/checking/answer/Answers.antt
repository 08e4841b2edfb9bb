use Rattle.std.proofs.Common.{◌∙◌, sym}
use Rattle.std.specs.Prelude.{Err}
use Rattle.potential_check.specs.declared.verdict.Reject.TheVariants.{Size, Ends}
use Rattle.potential_check.proofs.Judging.{by_clauses, certificates_are_answered, claim_fits}
use Rattle.potential_check.proofs.checking.answer.Goals as goal

pub check_claim-requires-clause-claim : goal.check_claim-requires-clause-claim
check_claim-requires-clause-claim c =
    claim_fits c.args.g.now c.args.c.now (sym c.has_size.ensures.is ∙ c.if-not-has_size.false)

pub returns-then-not-has_size : goal.returns-then-not-has_size
returns-then-not-has_size c = sym ((certificates_are_answered c.args.g.now c.args.c.now (Err Size)).0
    (sym c.has_size.ensures.is ∙ c.if-not-has_size.true))

pub returns-then-not-has_free_ends : goal.returns-then-not-has_free_ends
returns-then-not-has_free_ends c = sym ((certificates_are_answered c.args.g.now c.args.c.now (Err Ends)).0 (
  sym c.has_size.ensures.is ∙ c.if-not-has_size.false,
  sym c.has_free_ends.ensures ∙ c.if-not-has_free_ends.true,
))

pub returns : goal.returns
returns c = c.check_claim.ensures ∙ sym (by_clauses c.args.g.now c.args.c.now
    (sym c.has_size.ensures.is ∙ c.if-not-has_size.false)
    (sym c.has_free_ends.ensures ∙ c.if-not-has_free_ends.false))
