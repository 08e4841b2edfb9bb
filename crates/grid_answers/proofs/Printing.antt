-- What `prove` and `check` print.
use Rattle.std.proofs.Common.{◌≡◌, ◌≤◌, refl, ap, sym, ◌∙◌, ℕ, List, arith}
use Rattle.std.specs.Prelude.{Option, Some, None, Result, Ok, Err}
use Rattle.std.specs.Option.{option_map_or}
use Rattle.grid_moves.specs.declared.Cell.{Cell}
use Rattle.grid_moves.specs.declared.ends.Ends.{Ends}
use Rattle.grid_moves.specs.Ends.{AreEnds}
use Rattle.grid_moves.specs.Layers.{Layers, query_grid}
use Rattle.potential_check.specs.declared.verdict.Proof.{Proof}
use Rattle.potential_check.specs.declared.verdict.Reject.{Reject}
use Rattle.potential_make.specs.Made.{made_certificate}
use Rattle.grid_answers.specs.Certificates.{proof_answer, proof_status, verdict_status, why_unproved}

module _ (ls : Layers) (s t : Cell) where
  -- where a line says why nothing is proved, that is printed
  pub is-why : (line : List ℕ) → why_unproved ls s t ≡ Some line → line ≡ proof_answer ls s t
  unfolding proof_answer
  is-why line why = ap (λ (o : Option (List ℕ)). option_map_or (λ l. l) o
      (made_certificate (query_grid ls s) s t)) (sym why)

  pub why-bad : (line : List ℕ) → why_unproved ls s t ≡ Some line → 1 ≡ proof_status ls s t
  unfolding proof_status
  why-bad line why = ap (λ (o : Option (List ℕ)). option_map_or (λ l. 1) o 0) (sym why)

  module _ (both : Ends) (are : AreEnds ls s t both) where
    none : why_unproved ls s t ≡ None
    none = rw (are.on, are.free, are.one) refl

    -- and the certificate between the ends
    pub is-proof : made_certificate (query_grid ls both.from) both.from both.to ≡ proof_answer ls s t
    unfolding proof_answer
    is-proof =
        ap (λ (c : Cell). made_certificate (query_grid ls c) c both.to) are.from
        ∙ ap (λ (c : Cell). made_certificate (query_grid ls s) s c) are.to
        ∙ ap (λ (o : Option (List ℕ)). option_map_or (λ l. l) o
        (made_certificate (query_grid ls s) s t)) (sym none)

    pub proof-good : 0 ≡ proof_status ls s t
    unfolding proof_status
    proof-good = ap (λ (o : Option (List ℕ)). option_map_or (λ l. 1) o 0) (sym none)

-- the statuses are 0 and 1
pub small_proof : (ls : Layers) (s t : Cell) → proof_status ls s t ≤ 1
unfolding proof_status
small_proof ls s t = by_why (why_unproved ls s t)
  where
    by_why : (o : Option (List ℕ)) → option_map_or (λ l. 1) o 0 ≤ 1
    by_why None = omega arith
    by_why (Some line) = omega arith

pub small_verdict : (answer : Result Proof Reject) → verdict_status answer ≤ 1
small_verdict (Ok proof) = omega arith
small_verdict (Err why) = omega arith
