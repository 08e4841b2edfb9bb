-- That what `check` accepts holds, and that what `prove` prints is accepted.
use Rattle.std.proofs.Common.{◌≡◌, refl, ap, sym, subst, Bool, true, false, ◌&&◌, ℕ, List}
use Rattle.std.specs.Prelude.{Option, Some, None, Ok, Err, if◌then◌else◌, nat_eq, codes}
use Rattle.std.specs.Option.{option_map_or}
use Rattle.std.proofs.lemmas.Bool.{and_parts}
use Rattle.grid_moves.specs.Grid.{is_free}
use Rattle.grid_moves.specs.Layers.{Layers, in_one_layer, is_on_map, query_grid}
use Rattle.grid_moves.specs.Reply.{are_free_ends}
use Rattle.grid_moves.specs.declared.Cell.{Cell}
use Rattle.potential_check.specs.Accepted.{AcceptsClaim, Holds}
use Rattle.potential_check.specs.Answers.{certificate_answer, claim_answer}
use Rattle.potential_check.specs.declared.verdict.Proof.{Proof}
use Rattle.potential_check.specs.declared.verdict.Reject.TheVariants.{Ends, Size}
use Rattle.potential_check.proofs.Judging.{claim_holds, claims_are_answered}
use Rattle.potential_make.specs.Made.{made_certificate}
use Rattle.potential_make.proofs.Making.{certified}
use Rattle.grid_answers.specs.Certificates.{proof_answer, why_unproved}
use Rattle.call_files.specs.Layered.{layers_on}
use Rattle.outcome_laws.specs.Certificates.{AcceptedHold, ProofsAreAccepted}
use Rattle.outcome_laws.proofs.Ground.{query_whole}
use Rattle.outcome_laws.proofs.Kept.{are_layers-text}

pub accepted_hold : AcceptedHold
unfolding certificate_answer
accepted_hold g read proof e =
    by_tests (nat_eq g.width read.head.width && nat_eq g.height read.head.height)
    (is_free g read.head.start && is_free g read.head.goal) e
  where
    by_tests : (sized free : Bool) → (if sized
        then (if free then claim_answer g read.head.start read.head.goal read.claim else Err Ends) else Err
        Size)
        ≡ Ok proof
        → AcceptsClaim g read.head.start read.head.goal read.claim
        × Holds g read.head.start read.head.goal proof
    by_tests false free e = absurd (cc)
    by_tests true false e = absurd (cc)
    by_tests true true e =
        let is = (claims_are_answered g read.head.start read.head.goal read.claim (Ok proof)).1 e in (
          is.0,
          subst (λ (p : Proof). Holds g read.head.start read.head.goal p) (sym is.1)
              (claim_holds g read.head.start read.head.goal read.claim is.0),
        )

-- where nothing stands against a proof, both ends are free on one grid
one_grid : (ls : Layers) (s t : Cell) → why_unproved ls s t ≡ None → in_one_layer ls s t ≡ true
one_grid ls s t e = by_tests (is_on_map ls s && is_on_map ls t) (are_free_ends ls s t) (in_one_layer ls s t) e
  where
    by_tests : (on free one : Bool) → (if on then (if free then (if one then None else Some (codes "apart\n"))
        else Some (codes "blocked\n")) else Some (codes "outside\n")) ≡ None → one ≡ true
    by_tests true true true e = refl
    by_tests true true false e = absurd (cc)
    by_tests true false one e = absurd (cc)
    by_tests false free one e = absurd (cc)

pub proofs_accepted : ProofsAreAccepted
unfolding proof_answer
proofs_accepted set text m s t read e =
    let ls = layers_on set m in
    let ends = and_parts (is_free (query_grid ls s) s) (is_free (query_grid ls s) t) (one_grid ls s t e) in (
      ap (λ (o : Option (List ℕ)). option_map_or (λ line. line) o (made_certificate (query_grid ls s) s t)) e,
      certified (query_grid ls s) s t (query_whole ls (are_layers-text set text m read) s) ends.0 ends.1,
    )
