-- The lists of a certificate are those of the plain engine.
use Rattle.std.proofs.Common.{◌≡◌, ap, ◌∙◌, List}
use Rattle.root2_cost.specs.declared.Cost.{Cost}
use Rattle.grid_moves.specs.declared.Cell.{Cell}
use Rattle.grid_moves.specs.Grid.{GridData}
use Rattle.best_first.specs.declared.found.Found as answers
use Rattle.plain_search.specs.Answer.{IsPlainRun}
use Rattle.plain_search.specs.Lists.{AreLists, plain_of}
use Rattle.plain_search.specs.declared.lists.Listed.{Listed}
use Rattle.plain_search.specs.declared.lists.Listed.TheVariants.{Found, None as NotFound}
use Rattle.plain_search.proofs.Answering.{answers_are}
use Rattle.potential_check.specs.declared.certificate.Claim.{Claim}
use Rattle.potential_check.specs.declared.certificate.Claim.TheVariants.{Least, NoWalk}
use Rattle.potential_make.specs.Made.{claim_on, made_certificate, made_claim}
use Rattle.potential_make.specs.Written.{certificate_text, claim_of}

module _ (g : GridData) (s t : Cell) where
  -- what the plain engine's run found is claimed so
  claim_is : (found : Listed) → AreLists g s t found → claim_of found ≡ claim_on g s t (plain_of found).walk
  claim_is (Found points cost closed taken) are =
      ap (λ (l : List (Cell × Cost)). let k : Claim = Least cost points l in k) are.0
  claim_is (NotFound reached taken) are = ap (λ (l : List Cell). let k : Claim = NoWalk l in k) are.0

  claim-made : (found : Listed) → IsPlainRun g s t (plain_of found) → AreLists g s t found
      → claim_of found ≡ made_claim g s t
  unfolding made_claim
  claim-made found run are =
      claim_is found are
      ∙ ap (λ (f : answers.Found). claim_on g s t f.walk) (answers_are.only g s t (plain_of found) run)

  -- so its text is the certificate
  pub text-made : (found : Listed) → IsPlainRun g s t (plain_of found) → AreLists g s t found
      → certificate_text g.width g.height s t (claim_of found) ≡ made_certificate g s t
  unfolding made_certificate
  text-made found run are =
      ap (λ (k : Claim). certificate_text g.width g.height s t k) (claim-made found run are)
