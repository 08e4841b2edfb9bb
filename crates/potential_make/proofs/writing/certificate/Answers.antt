use Rattle.std.proofs.Common.{◌++◌, ◌∙◌, ap, List, ℕ}
use Rattle.std.specs.Prelude.{codes}
use Rattle.potential_make.specs.Written.{claim_of, claim_text, head_text}
use Rattle.potential_make.proofs.Listing.{text-made}
use Rattle.potential_make.proofs.writing.certificate.Goals as goal

pub returns : goal.returns
returns c =
    let head : List ℕ = head_text c.args.g.now.width c.args.g.now.height c.args.from c.args.to in
    let claim : List ℕ = claim_text (claim_of c.in_ok-found.found) in
    c.in_ok-put.ensures.ok
    ∙ ap (λ (l : List ℕ). l ++ codes "end\n") (c.in_ok-put_claim.ensures
    ∙ ap (λ (l : List ℕ). l ++ claim) (c.in_ok-put_head.ensures
    ∙ ap (λ (l : List ℕ). l ++ head) c.new-text.ensures.items))
    ∙ text-made c.args.g.now c.args.from c.args.to c.in_ok-found.found c.in_ok-found.ensures.run
    c.in_ok-found.ensures.lists
