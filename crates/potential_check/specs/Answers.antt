-- What a certificate comes to: what it proves, or the first clause that it fails.
use Rattle.std.specs.Prelude.{◌≡◌, ◌↔◌, ℕ, Bool, true, false, nat_eq, ◌&&◌, if◌then◌else◌, length}
use Rattle.std.specs.Prelude.{Option, Some, None, Result, Ok, Err}
use Rattle.root2_cost.specs.declared.Cost.{Cost}
use Rattle.root2_cost.specs.Sums.{is_same_cost}
use Rattle.grid_moves.specs.declared.Cell.{Cell}
use Rattle.grid_moves.specs.Grid.{GridData, is_free}
use Rattle.potential_check.specs.declared.certificate.Certificate.{Certificate}
use Rattle.potential_check.specs.declared.certificate.Claim.{Claim}
use Rattle.potential_check.specs.declared.certificate.Claim.TheVariants.{Least, NoWalk}
use Rattle.potential_check.specs.declared.verdict.Proof.{Proof}
use Rattle.potential_check.specs.declared.verdict.Proof.TheVariants as proof
use Rattle.potential_check.specs.declared.verdict.Reject.{Reject}
use Rattle.potential_check.specs.declared.verdict.Reject.TheVariants.{Size, Ends, Walk, Start, Goal, Move}
use Rattle.potential_check.specs.declared.verdict.Reject.TheVariants.{Open}
use Rattle.potential_check.specs.Accepted.{AcceptsClaim, Holds, IsAccepted, Refuses, RefusesClaim, proof_of}
use Rattle.potential_check.specs.Accepted.{ends_at_cost, leaves, starts_at_nothing}
use Rattle.potential_check.specs.Moves.{first_failing}
use Rattle.potential_check.specs.Potential.{is_listed, potential_of, rises}
use Rattle.potential_check.specs.Text.{Plain, plain}
use Rattle.potential_check.specs.Walks.{walk_answer}

-- an answer for a claim is right: it proves what is claimed, and is accepted; or it is refused so
abbrev pub IsClaimAnswer : GridData → Cell → Cell → Claim → Result Proof Reject → Type 0
IsClaimAnswer g s t claim (Ok proof) = AcceptsClaim g s t claim × (proof ≡ proof_of claim)
IsClaimAnswer g s t claim (Err why) = RefusesClaim g s t claim why

-- and likewise for a certificate
abbrev pub IsCertificateAnswer : GridData → Certificate → Result Proof Reject → Type 0
IsCertificateAnswer g c (Ok proof) = IsAccepted g c × (proof ≡ proof_of c.claim)
IsCertificateAnswer g c (Err why) = Refuses g c why

-- the number that tells that so many points are no right walk of this cost, by what they come to
abbrev pub bad_number : Cost → ℕ → Result Cost ℕ → Option ℕ
bad_number cost count (Err i) = Some i
bad_number cost count (Ok paid) = if is_same_cost paid cost then None else Some count

-- a claim of least cost comes to this by its points, by whether the potential is nothing at the start and the
-- cost at the goal, and by the first legal move that raises it by more than its cost
abbrev pub least_answer : Cost → Option ℕ → Bool → Bool → Option (Cell × Cell) → Result Proof Reject
least_answer cost (Some i) start goal found = Err (Walk i)
least_answer cost None false goal found = Err Start
least_answer cost None true false found = Err Goal
least_answer cost None true true (Some m) = Err (Move m.0 m.1)
least_answer cost None true true None = Ok (proof.Least cost)

-- and one that no walk exists by whether start and goal are listed, and by the first legal move that leads
-- from a listed cell to one that is not
abbrev pub none_answer : Bool → Bool → Option (Cell × Cell) → Result Proof Reject
none_answer false goal found = Err Start
none_answer true true found = Err Goal
none_answer true false (Some m) = Err (Open m.0 m.1)
none_answer true false None = Ok proof.NoWalk

-- what a claim about the walks from s to t comes to
abbrev pub claim_answer : GridData → Cell → Cell → Claim → Result Proof Reject
claim_answer g s t (Least cost points values) =
    least_answer cost (bad_number cost (length points) (walk_answer g s t points))
    (starts_at_nothing s t cost values) (ends_at_cost t cost values)
    (first_failing g (rises (potential_of cost t values)))
claim_answer g s t (NoWalk cells) =
    none_answer (is_listed cells s) (is_listed cells t) (first_failing g (leaves cells))

-- what a certificate comes to, wherever it lies in memory: by its size, its ends and its claim
unfoldable pub certificate_answer : GridData → Plain → Result Proof Reject
certificate_answer g p = if nat_eq g.width p.head.width && nat_eq g.height p.head.height
    then (if is_free g p.head.start && is_free g p.head.goal
    then claim_answer g p.head.start p.head.goal p.claim else Err Ends) else Err Size

-- these are right, and no other answers are
abbrev pub ClaimsAreAnswered : Type 0
ClaimsAreAnswered = (g : GridData) (s t : Cell) (claim : Claim) (answer : Result Proof Reject)
    → IsClaimAnswer g s t claim answer ↔ (claim_answer g s t claim ≡ answer)

abbrev pub CertificatesAreAnswered : Type 0
CertificatesAreAnswered = (g : GridData) (c : Certificate) (answer : Result Proof Reject)
    → IsCertificateAnswer g c answer ↔ (certificate_answer g (plain c) ≡ answer)

-- what an accepted certificate claims holds of all walks
abbrev pub AcceptedHold : Type 0
AcceptedHold = (g : GridData) (c : Certificate) → IsAccepted g c → Holds g c.start c.goal (proof_of c.claim)
