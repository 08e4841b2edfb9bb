use Rattle.std.proofs.Common.{◌∙◌, ap, sym}
use Rattle.potential_check.specs.Answers.{claim_answer}
use Rattle.potential_check.proofs.checking.check_claim.Goals as goal

pub returns-in-Least : goal.returns-in-Least
returns-in-Least c =
    c.check_least.ensures ∙ ap (claim_answer c.args.g.now c.args.s c.args.t) (sym c.in-Least.is)
