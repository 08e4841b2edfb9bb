-- Which certificates are accepted, and how the others are refused: by the first clause that fails.
use Rattle.std.specs.Prelude.{◌≡◌, ℕ, Bool, true, false, nat_eq, ◌&&◌, not, List, ◌∷◌, length, Some, pos}
use Rattle.std.specs.Ordering.{int_eq}
use Rattle.root2_cost.specs.declared.Cost.{Cost}
use Rattle.root2_cost.specs.declared.Signed.{Signed}
use Rattle.root2_cost.specs.Order.{IsAtMost}
use Rattle.root2_cost.specs.Sums.{is_same_cost, no_cost}
use Rattle.grid_moves.specs.declared.Cell.{Cell}
use Rattle.grid_moves.specs.Grid.{GridData, is_free}
use Rattle.grid_moves.specs.Walk.{IsWalk, cost_of}
use Rattle.grid_moves.specs.Walk as walks
use Rattle.potential_check.specs.declared.certificate.Certificate.{Certificate}
use Rattle.potential_check.specs.declared.certificate.Claim.{Claim}
use Rattle.potential_check.specs.declared.certificate.Claim.TheVariants.{Least, NoWalk}
use Rattle.potential_check.specs.declared.verdict.Proof.{Proof}
use Rattle.potential_check.specs.declared.verdict.Proof.TheVariants as proof
use Rattle.potential_check.specs.declared.verdict.Reject.{Reject}
use Rattle.potential_check.specs.declared.verdict.Reject.TheVariants.{Size, Ends, Walk, Start, Goal, Move}
use Rattle.potential_check.specs.declared.verdict.Reject.TheVariants.{Open}
use Rattle.potential_check.specs.Potential.{potential_of, rises, is_listed, NoMove, IsFeasible}
use Rattle.potential_check.specs.Moves.{first_failing}
use Rattle.potential_check.specs.Walks.{IsBadPoint, IsRightWalk}

-- the stated size is the grid's
abbrev pub has_size : GridData → Certificate → Bool
has_size g c = nat_eq g.width c.width && nat_eq g.height c.height

-- both ends are free cells of the grid
abbrev pub has_free_ends : GridData → Certificate → Bool
has_free_ends g c = is_free g c.start && is_free g c.goal

-- the value is this cost
abbrev pub is_value : Signed → Cost → Bool
is_value s c = int_eq s.a (pos c.a) && int_eq s.b (pos c.b)

-- the points are no right walk of this cost, and the number tells it: they are no right walk, or one of
-- another cost, which their number tells
pub data IsBadWalk (g : GridData) (s t : Cell) (cost : Cost) (points : List Cell) : ℕ → Type 0 where
  bad_point : {i : ℕ} → IsBadPoint g s t points i → IsBadWalk g s t cost points i
  other : (paid : Cost) → IsRightWalk g s t paid points → is_same_cost paid cost ≡ false
      → IsBadWalk g s t cost points (length points)

-- the potential is nothing at the start
abbrev pub starts_at_nothing : Cell → Cell → Cost → List (Cell × Cost) → Bool
starts_at_nothing s t cost values = is_value (potential_of cost t values s) no_cost

-- the potential is the stated cost at the goal
abbrev pub ends_at_cost : Cell → Cost → List (Cell × Cost) → Bool
ends_at_cost t cost values = is_value (potential_of cost t values t) cost

-- a claim of least cost is accepted, on the grid, between free cells s and t
pub record AcceptsLeast (g : GridData) (s t : Cell) (cost : Cost) (points : List Cell) (values : List (Cell
    × Cost))
    : Type 0 where
  pub walk : IsRightWalk g s t cost points
  pub start : starts_at_nothing s t cost values ≡ true
  pub goal : ends_at_cost t cost values ≡ true
  pub moves : IsFeasible g (potential_of cost t values)

-- a legal move leads from a listed cell to one that is not
abbrev pub leaves : List Cell → Cell → Cell → Bool
leaves cells u v = is_listed cells u && not (is_listed cells v)

-- a claim that no walk exists is accepted
pub record AcceptsNone (g : GridData) (s t : Cell) (cells : List Cell) : Type 0 where
  pub start : is_listed cells s ≡ true
  pub goal : is_listed cells t ≡ false
  pub moves : NoMove g (leaves cells)

-- the claim is accepted
abbrev pub AcceptsClaim : GridData → Cell → Cell → Claim → Type 0
AcceptsClaim g s t (Least cost points values) = AcceptsLeast g s t cost points values
AcceptsClaim g s t (NoWalk cells) = AcceptsNone g s t cells

-- the certificate is accepted
pub record IsAccepted (g : GridData) (c : Certificate) : Type 0 where
  pub size : has_size g c ≡ true
  pub ends : has_free_ends g c ≡ true
  pub claim : AcceptsClaim g c.start c.goal c.claim

-- what it then proves
abbrev pub proof_of : Claim → Proof
proof_of (Least cost points values) = proof.Least cost
proof_of (NoWalk cells) = proof.NoWalk

-- a claim of least cost is refused so: the clauses before hold, and this one fails
abbrev pub RefusesLeast : GridData → Cell → Cell → Cost → List Cell → List (Cell × Cost) → Reject → Type 0
RefusesLeast g s t cost points values (Walk i) = IsBadWalk g s t cost points i
RefusesLeast g s t cost points values Start =
    IsRightWalk g s t cost points × (starts_at_nothing s t cost values ≡ false)
RefusesLeast g s t cost points values Goal = IsRightWalk g s t cost points
    × (starts_at_nothing s t cost values ≡ true) × (ends_at_cost t cost values ≡ false)
RefusesLeast g s t cost points values (Move u v) = IsRightWalk g s t cost points
    × (starts_at_nothing s t cost values ≡ true) × (ends_at_cost t cost values ≡ true)
    × (first_failing g (rises (potential_of cost t values)) ≡ Some (u, v))
RefusesLeast g s t cost points values _ = ⊥

-- and a claim that no walk exists so
abbrev pub RefusesNone : GridData → Cell → Cell → List Cell → Reject → Type 0
RefusesNone g s t cells Start = is_listed cells s ≡ false
RefusesNone g s t cells Goal = (is_listed cells s ≡ true) × (is_listed cells t ≡ true)
RefusesNone g s t cells (Open u v) = (is_listed cells s ≡ true) × (is_listed cells t ≡ false)
    × (first_failing g (leaves cells) ≡ Some (u, v))
RefusesNone g s t cells _ = ⊥

abbrev pub RefusesClaim : GridData → Cell → Cell → Claim → Reject → Type 0
RefusesClaim g s t (Least cost points values) reject = RefusesLeast g s t cost points values reject
RefusesClaim g s t (NoWalk cells) reject = RefusesNone g s t cells reject

-- the certificate is refused so
abbrev pub Refuses : GridData → Certificate → Reject → Type 0
Refuses g c Size = has_size g c ≡ false
Refuses g c Ends = (has_size g c ≡ true) × (has_free_ends g c ≡ false)
Refuses g c reject =
    (has_size g c ≡ true) × (has_free_ends g c ≡ true) × RefusesClaim g c.start c.goal c.claim reject

-- walks from s to t cost this much at least, and one costs just this
pub record HasLeastCost (g : GridData) (s t : Cell) (cost : Cost) : Type 0 where
  pub cells : List Cell
  pub walk : IsWalk g s t cells
  pub priced : cost_of (s ∷ cells) ≡ cost
  pub least : (others : List Cell) → IsWalk g s t others → IsAtMost cost (cost_of (s ∷ others))

-- what a proof tells of the walks from s to t
abbrev pub Holds : GridData → Cell → Cell → Proof → Type 0
Holds g s t (proof.Least cost) = HasLeastCost g s t cost
Holds g s t proof.NoWalk = walks.NoWalk g s t
