-- The answers of a check, by the first clause that fails.
use Rattle.std.proofs.lemmas.Grind.{common_steps}
use Rattle.std.proofs.Common.{◌≡◌, ℕ, ◌<◌, ◌≤◌, arith, refl, ap, sym, ◌∙◌, subst, Bool, true, false, List}
use Rattle.std.specs.Prelude.{Option, Some, None, Result, Ok, Err, IfOk, IfErr, if◌then◌else◌, ◌^◌, length}
use Rattle.std.proofs.lemmas.Bool.{and_parts, ltb-true, eqb-true}
use Rattle.std.proofs.lemmas.Bool.Decides.{nat_tests}
use Rattle.std.specs.List.{list_all}
use Rattle.root2_cost.specs.declared.Cost.{Cost}
use Rattle.grid_moves.specs.declared.Cell.{Cell}
use Rattle.grid_moves.specs.Grid.{GridData, IsGrid}
use Rattle.grid_moves.specs.Walk.{last_of}
use Rattle.grid_moves.proofs.Legal.{free_inside, legal_is}
use Rattle.potential_check.specs.declared.certificate.Certificate.{Certificate}
use Rattle.potential_check.specs.declared.certificate.Claim.{Claim}
use Rattle.potential_check.specs.declared.certificate.Claim.TheVariants.{Least, NoWalk}
use Rattle.potential_check.specs.declared.verdict.Proof.{Proof}
use Rattle.potential_check.specs.declared.verdict.Reject.{Reject}
use Rattle.potential_check.specs.declared.verdict.Reject.TheVariants.{Size, Ends, Walk, Start, Goal, Move}
use Rattle.potential_check.specs.declared.verdict.Reject.TheVariants.{Open}
use Rattle.potential_check.specs.Certificate.{are_listed, cells_of, is_claim, is_short, is_small}
use Rattle.potential_check.specs.Potential.{is_listed, potential_of, rises}
use Rattle.potential_check.specs.Moves.{first_failing}
use Rattle.potential_check.specs.Accepted.{AcceptsClaim, Holds, IsAccepted, Refuses, RefusesClaim, proof_of}
use Rattle.potential_check.specs.Accepted.{ends_at_cost, has_free_ends, has_size, leaves, starts_at_nothing}
use Rattle.potential_check.specs.Answers.{CertificatesAreAnswered, ClaimsAreAnswered, IsCertificateAnswer}
use Rattle.potential_check.specs.Answers.{IsClaimAnswer, certificate_answer, claim_answer, least_answer}
use Rattle.potential_check.specs.Answers.{none_answer}
use Rattle.potential_check.specs.Text.{plain}
use Rattle.potential_check.specs.Walks.{IsRightWalk}
use Rattle.potential_check.specs.Rising.{climbs, height_of}
use Rattle.potential_check.proofs.Feasible.{first_failing-same, kept_inside, none_cheaper, none_fails}
use Rattle.potential_check.proofs.Feasible.{none_found}
use Rattle.potential_check.proofs.Ranked.{climbs-leaves, climbs-rises, members, out_of_reach, rank_below}
use Rattle.potential_check.proofs.Ranked.{ranked}
use Rattle.potential_check.proofs.Walks.{SaysOfWalk, fault, fault_bad, fault_right, fault_says}

module _ (g : GridData) (s t : Cell) (cost : Cost) (points : List Cell) (values : List (Cell × Cost)) where
  abbrev Says : Result Proof Reject → Type 0
  Says answer = IsClaimAnswer g s t (Least cost points values) answer

  abbrev fails : Cell → Cell → Bool
  fails = rises (potential_of cost t values)

  -- a claim of least cost, by the clauses in turn
  least_right : Says (claim_answer g s t (Least cost points values))
  least_right = by_walk (fault g s t cost points) (fault_says g s t cost points)
    where
      by_move : IsRightWalk g s t cost points → starts_at_nothing s t cost values ≡ true
          → ends_at_cost t cost values ≡ true → (o : Option (Cell × Cell)) → first_failing g fails ≡ o
          → Says (least_answer cost None true true o)
      by_move walk start goal None none =
          (record { walk = walk; start = start; goal = goal; moves = none_found g fails none }, refl)
      by_move walk start goal (Some (u, v)) found = (walk, start, goal, found)

      by_goal : IsRightWalk g s t cost points → starts_at_nothing s t cost values ≡ true → (b : Bool)
          → ends_at_cost t cost values ≡ b → Says (least_answer cost None true b (first_failing g fails))
      by_goal walk start true goal = by_move walk start goal (first_failing g fails) refl
      by_goal walk start false off = (walk, start, off)

      by_start : IsRightWalk g s t cost points → (b : Bool) → starts_at_nothing s t cost values ≡ b
          → Says (least_answer cost None b (ends_at_cost t cost values) (first_failing g fails))
      by_start walk true start = by_goal walk start (ends_at_cost t cost values) refl
      by_start walk false off = (walk, off)

      by_walk : (o : Option ℕ) → SaysOfWalk g s t cost points o → Says (least_answer cost o
          (starts_at_nothing s t cost values) (ends_at_cost t cost values) (first_failing g fails))
      by_walk None walk = by_start walk (starts_at_nothing s t cost values) refl
      by_walk (Some i) bad = bad

  only_least : (answer : Result Proof Reject) → Says answer
      → claim_answer g s t (Least cost points values) ≡ answer
  only_least (Ok p) a = rw
      (fault_right g s t cost points a.0.walk, a.0.start, a.0.goal, none_fails g fails a.0.moves, a.1) refl
  only_least (Err (Walk i)) bad = rw (fault_bad g s t cost points i bad) refl
  only_least (Err Start) r = rw (fault_right g s t cost points r.0, r.1) refl
  only_least (Err Goal) r = rw (fault_right g s t cost points r.0, r.1, r.2) refl
  only_least (Err (Move u v)) r = rw (fault_right g s t cost points r.0, r.1, r.2, r.3) refl
  only_least (Err Size) r = absurd r
  only_least (Err Ends) r = absurd r
  only_least (Err (Open u v)) r = absurd r

module _ (g : GridData) (s t : Cell) (cells : List Cell) where
  abbrev SaysNone : Result Proof Reject → Type 0
  SaysNone answer = IsClaimAnswer g s t (NoWalk cells) answer

  -- a claim that no walk exists
  none_right : SaysNone (claim_answer g s t (NoWalk cells))
  none_right = by_start (is_listed cells s) refl
    where
      by_move : is_listed cells s ≡ true → is_listed cells t ≡ false → (o : Option (Cell × Cell))
          → first_failing g (leaves cells) ≡ o → SaysNone (none_answer true false o)
      by_move start goal None none =
          (record { start = start; goal = goal; moves = none_found g (leaves cells) none }, refl)
      by_move start goal (Some (u, v)) found = (start, goal, found)

      by_goal : is_listed cells s ≡ true → (b : Bool) → is_listed cells t ≡ b
          → SaysNone (none_answer true b (first_failing g (leaves cells)))
      by_goal start true off = (start, off)
      by_goal start false goal = by_move start goal (first_failing g (leaves cells)) refl

      by_start : (b : Bool) → is_listed cells s ≡ b
          → SaysNone (none_answer b (is_listed cells t) (first_failing g (leaves cells)))
      by_start true start = by_goal start (is_listed cells t) refl
      by_start false off = off

  only_none : (answer : Result Proof Reject) → SaysNone answer → claim_answer g s t (NoWalk cells) ≡ answer
  only_none (Ok p) a = rw (a.0.start, a.0.goal, none_fails g (leaves cells) a.0.moves, a.1) refl
  only_none (Err Start) off = rw off refl
  only_none (Err Goal) r = rw (r.0, r.1) refl
  only_none (Err (Open u v)) r = rw (r.0, r.1, r.2) refl
  only_none (Err Size) r = absurd r
  only_none (Err Ends) r = absurd r
  only_none (Err (Walk i)) r = absurd r
  only_none (Err (Move u v)) r = absurd r

claim_right : (g : GridData) (s t : Cell) (claim : Claim)
    → IsClaimAnswer g s t claim (claim_answer g s t claim)
claim_right g s t (Least cost points values) = least_right g s t cost points values
claim_right g s t (NoWalk cells) = none_right g s t cells

only_claim : (g : GridData) (s t : Cell) (claim : Claim) (answer : Result Proof Reject)
    → IsClaimAnswer g s t claim answer → claim_answer g s t claim ≡ answer
only_claim g s t (Least cost points values) = only_least g s t cost points values
only_claim g s t (NoWalk cells) = only_none g s t cells

pub claims_are_answered : ClaimsAreAnswered
claims_are_answered g s t claim answer = (
  only_claim g s t claim answer,
  λ e. subst (λ (a : Result Proof Reject). IsClaimAnswer g s t claim a) e (claim_right g s t claim),
)

-- no claim is refused by its size or its ends
not_size : (g : GridData) (s t : Cell) (claim : Claim) → RefusesClaim g s t claim Size → ⊥
not_size g s t (Least cost points values) refuses = refuses
not_size g s t (NoWalk cells) refuses = refuses

not_ends : (g : GridData) (s t : Cell) (claim : Claim) → RefusesClaim g s t claim Ends → ⊥
not_ends g s t (Least cost points values) refuses = refuses
not_ends g s t (NoWalk cells) refuses = refuses

module _ (g : GridData) (c : Certificate) where
  -- a certificate of the grid's size with free ends is answered by its claim
  by_claim : has_size g c ≡ true → has_free_ends g c ≡ true → (answer : Result Proof Reject)
      → IsClaimAnswer g c.start c.goal c.claim answer → IsCertificateAnswer g c answer
  by_claim size ends (Ok p) a = (record { size = size; ends = ends; claim = a.0 }, a.1)
  by_claim size ends (Err Size) r = absurd (not_size g c.start c.goal c.claim r)
  by_claim size ends (Err Ends) r = absurd (not_ends g c.start c.goal c.claim r)
  by_claim size ends (Err (Walk i)) r = (size, ends, r)
  by_claim size ends (Err Start) r = (size, ends, r)
  by_claim size ends (Err Goal) r = (size, ends, r)
  by_claim size ends (Err (Move u v)) r = (size, ends, r)
  by_claim size ends (Err (Open u v)) r = (size, ends, r)

  certificate_right : IsCertificateAnswer g c (certificate_answer g (plain c))
  unfolding certificate_answer
  certificate_right = by_size (has_size g c) refl
    where
      by_ends : has_size g c ≡ true → (b : Bool) → has_free_ends g c ≡ b
          → IsCertificateAnswer g c (if b then claim_answer g c.start c.goal c.claim else Err Ends)
      by_ends size true ends = by_claim size ends (claim_answer g c.start c.goal c.claim)
          (claim_right g c.start c.goal c.claim)
      by_ends size false off = (size, off)

      by_size : (b : Bool) → has_size g c ≡ b → IsCertificateAnswer g c (if b
          then (if has_free_ends g c then claim_answer g c.start c.goal c.claim else Err Ends) else Err Size)
      by_size true size = by_ends size (has_free_ends g c) refl
      by_size false off = off

  pub by_clauses : has_size g c ≡ true → has_free_ends g c ≡ true
      → certificate_answer g (plain c) ≡ claim_answer g c.start c.goal c.claim
  unfolding certificate_answer
  by_clauses size ends = rw (size, ends) refl

  only_certificate : (answer : Result Proof Reject) → IsCertificateAnswer g c answer
      → certificate_answer g (plain c) ≡ answer
  unfolding certificate_answer
  only_certificate (Ok p) a =
      by_clauses a.0.size a.0.ends ∙ only_claim g c.start c.goal c.claim (Ok p) (a.0.claim, a.1)
  only_certificate (Err Size) off = rw off refl
  only_certificate (Err Ends) r = rw (r.0, r.1) refl
  only_certificate (Err (Walk i)) r =
      by_clauses r.0 r.1 ∙ only_claim g c.start c.goal c.claim (Err (Walk i)) r.2
  only_certificate (Err Start) r = by_clauses r.0 r.1 ∙ only_claim g c.start c.goal c.claim (Err Start) r.2
  only_certificate (Err Goal) r = by_clauses r.0 r.1 ∙ only_claim g c.start c.goal c.claim (Err Goal) r.2
  only_certificate (Err (Move u v)) r =
      by_clauses r.0 r.1 ∙ only_claim g c.start c.goal c.claim (Err (Move u v)) r.2
  only_certificate (Err (Open u v)) r =
      by_clauses r.0 r.1 ∙ only_claim g c.start c.goal c.claim (Err (Open u v)) r.2

pub certificates_are_answered : CertificatesAreAnswered
certificates_are_answered g c answer = (
  only_certificate g c answer,
  λ e. subst (λ (a : Result Proof Reject). IsCertificateAnswer g c a) e (certificate_right g c),
)

-- between free cells an accepted claim holds of all walks
pub claim_holds : (g : GridData) (s t : Cell) (claim : Claim) → AcceptsClaim g s t claim
    → Holds g s t (proof_of claim)
claim_holds g s t (Least cost points values) a = record {
  cells = a.walk.cells;
  walk = a.walk.walk;
  priced = a.walk.priced;
  least = none_cheaper g (potential_of cost t values) s t cost a.moves a.start a.goal;
}
claim_holds g s t (NoWalk cells) a = λ others walk.
    let inside = kept_inside g (is_listed cells) a.moves s others walk.legal a.start in
    let goal : is_listed cells (last_of s others) ≡ false = ap (is_listed cells) walk.ends ∙ a.goal in
    cc

-- and so does what an answer says, which accepts the certificate or refuses it
pub record Tells (g : GridData) (c : Certificate) (answer : Result Proof Reject) : Type 0 where
  pub holds : IfOk answer (Holds g c.start c.goal)
  pub ok : IfOk answer (λ proof. IsAccepted g c)
  pub err : IfErr answer (Refuses g c)

pub answer_tells : (g : GridData) (c : Certificate) (answer : Result Proof Reject)
    → IsCertificateAnswer g c answer → Tells g c answer
answer_tells g c (Ok p) a = record {
  holds = subst (λ (q : Proof). Holds g c.start c.goal q) (sym a.1)
      (claim_holds g c.start c.goal c.claim a.0.claim);
  ok = a.0;
  err = tt;
}
answer_tells g c (Err why) r = record { holds = tt; ok = tt; err = r }

-- the first climbing move is the first one that raises the potential by more than its cost
pub raise_is : (g : GridData) (cost : Cost) (t : Cell) (given values : List (Cell × Cost)) → IsGrid g
    → given ≡ values → is_small cost ≡ true → is_short t ≡ true
    → list_all (λ entry. is_small entry.1) values ≡ true
    → first_failing g (climbs (height_of (rank_below cost t) (ranked given)))
    ≡ first_failing g (rises (potential_of cost t values))
raise_is g cost t given values whole same small short low =
    ap (λ (es : List (Cell × Cost)). first_failing g (climbs (height_of (rank_below cost t) (ranked es))))
    same
    ∙ first_failing-same g (climbs (height_of (rank_below cost t) (ranked values)))
    (rises (potential_of cost t values)) (λ u v legal.
    let is = legal_is g u v legal in
    let source = free_inside g u is.source in
    let target = free_inside g v is.target in
    climbs-rises cost t values u v small short low (below source.0 whole.sides.narrow)
    (below source.1 whole.sides.low) (below target.0 whole.sides.narrow) (below target.1 whole.sides.low))
  where
    below : {m n : ℕ} → m < n → n ≤ 4096 → m < 4096
    below {m} {n} g h = omega arith

-- and likewise the first one that leaves listed cells
pub way_out_is : (g : GridData) (given cells : List Cell) → given ≡ cells
    → first_failing g (climbs (height_of out_of_reach (members given))) ≡ first_failing g (leaves cells)
way_out_is g given cells same =
    ap (λ (cs : List Cell). first_failing g (climbs (height_of out_of_reach (members cs)))) same
    ∙ first_failing-same g (climbs (height_of out_of_reach (members cells))) (leaves cells)
    (λ u v legal. climbs-leaves cells u v)

-- what a claim of least cost holds
pub record LeastParts (width height : ℕ) (cost : Cost) (points : List Cell) (values : List (Cell × Cost)) :
    Type 0 where
  pub small : is_small cost ≡ true
  pub few : length points < 2 ^ 30
  pub low : list_all (λ entry. is_small entry.1) values ≡ true
  pub listed : are_listed width height (cells_of values) ≡ true

pub least_parts : (width height : ℕ) (cost : Cost) (points : List Cell) (values : List (Cell × Cost))
    → is_claim width height (Least cost points values) ≡ true → LeastParts width height cost points values
least_parts width height cost points values h1 = grind (arith, common_steps, and_parts, ltb-true)

-- the claim of a certificate of the grid's size
pub claim_fits : (g : GridData) (c : Certificate) → has_size g c ≡ true
    → is_claim g.width g.height c.claim ≡ true
claim_fits g c h1 = grind (arith, nat_tests, and_parts, eqb-true)
