-- Points that stand for a walk between two cells.
use Rattle.std.proofs.lemmas.Grind.{common_steps}
use Rattle.std.proofs.Common.{◌≡◌, ℕ, suc, ◌-◌, arith, refl, ap, sym, ◌∙◌, Bool, true, false, List, [], ◌∷◌}
use Rattle.std.proofs.Common.{◌++◌, length, subst}
use Rattle.std.specs.Prelude.{Option, Some, None, Result, Ok, Err, option_map, slice_get, if◌then◌else◌}
use Rattle.std.proofs.lemmas.Bool.Decides.{nat_tests}
use Rattle.root2_cost.specs.declared.Cost.{Cost}
use Rattle.root2_cost.proofs.Less.{is_same_cost-of, is_same_cost-tells}
use Rattle.root2_cost.specs.Sums.{is_same_cost}
use Rattle.grid_moves.specs.declared.Cell.{Cell}
use Rattle.grid_moves.specs.Grid.{GridData}
use Rattle.grid_moves.specs.Move.{is_same}
use Rattle.grid_moves.specs.Points.{are_lined, unfolded_from, unfolding_of}
use Rattle.grid_moves.specs.Walk.{is_walk, cost_of, last_of}
use Rattle.grid_moves.proofs.Legal.{is_same-cell, is_same-itself}
use Rattle.grid_moves.proofs.Walks.{last-joined}
use Rattle.path_points.specs.declared.checking.BadAt.{BadAt}
use Rattle.path_points.specs.Checked.{IsPointsAnswer, IsShortWalk, bad_at, points_answer, run}
use Rattle.path_points.proofs.Joined.{run_ends}
use Rattle.path_points.proofs.Checks.{points_are_answered}
use Rattle.potential_check.specs.Accepted.{IsBadWalk, bad_point, other}
use Rattle.potential_check.specs.Answers.{bad_number}
use Rattle.potential_check.specs.Walks.{IsBadPoint, IsRightWalk, IsWalkAnswer, WalksAreAnswered, begins_at}
use Rattle.potential_check.specs.Walks.{broken, elsewhere, ended_answer, ends_at, is_at, short_of}
use Rattle.potential_check.specs.Walks.{walk_answer}

unfolded_some : (b : Bool) (f : List Cell → List Cell) (o : Option (List Cell)) (cells : List Cell)
    → (if b then option_map f o else None) ≡ Some cells → (more : List Cell) × (o ≡ Some more) × (f more
    ≡ cells)
unfolded_some false f o cells h = absurd (cc)
unfolded_some true f None cells h = absurd (cc)
unfolded_some true f (Some more) cells h = (more, refl, cc)

-- an unfolding ends in the last point
unfolded_ends : (u : Cell) (points cells : List Cell) → unfolded_from u points ≡ Some cells
    → last_of u cells ≡ last_of u points
unfolded_ends u [] cells h = let none : [] ≡ cells = cc in ap (last_of u) (sym none)
unfolded_ends u (v ∷ points) cells h =
    let parts = unfolded_some (are_lined u v) (λ more. run u v ++ more) (unfolded_from v points) cells h in
    ap (last_of u) (sym parts.2) ∙ last-joined u (run u v) parts.0
    ∙ ap (λ (c : Cell). last_of c parts.0) (run_ends u v) ∙ unfolded_ends v points parts.0 parts.1

last_point : (u : Cell) (points : List Cell)
    → slice_get (u ∷ points) (length (u ∷ points) - 1) ≡ Some (last_of u points)
last_point u [] = refl
last_point u (v ∷ points) =
    let n : suc (suc (length points)) - 1 ≡ suc (suc (length points) - 1) = omega arith in
    rw n (last_point v points)

at_cell : (c p : Cell) → is_at c (Some p) ≡ true → p ≡ c
at_cell c p h = is_same-cell p c h

-- what an unfolding says of the points
pub record Unfolds (points : List Cell) (s : Cell) (cells : List Cell) : Type 0 where
  pub begins : begins_at s points ≡ true
  pub ends : slice_get points (length points - 1) ≡ Some (last_of s cells)

unfolding_some : (p : Cell) (o : Option (List Cell)) (s : Cell) (cells : List Cell)
    → option_map (λ more. p ∷ more) o ≡ Some (s ∷ cells) → (p ≡ s) × (o ≡ Some cells)
unfolding_some p o s cells h1 = grind (arith, nat_tests)

pub unfolds_is : (points : List Cell) (s : Cell) (cells : List Cell) → unfolding_of points ≡ Some (s ∷ cells)
    → Unfolds points s cells
unfolds_is points s cells h1 =
    grind (arith, common_steps, unfolding_some, is_same-itself, last_point, unfolded_ends)

-- the cells of an unfolding that begins at s
pub begun : (points cells : List Cell) (s : Cell) → unfolding_of points ≡ Some cells → begins_at s points
    ≡ true
    → (more : List Cell) × (unfolding_of points ≡ Some (s ∷ more)) × (cells ≡ s ∷ more)
begun [] cells s h b = absurd (cc)
begun (p ∷ points) cells s h b = by_option (unfolded_from p points) h
  where
    first : p ≡ s
    first = at_cell s p b

    by_option : (o : Option (List Cell)) → option_map (λ more. p ∷ more) o ≡ Some cells
        → (more : List Cell) × (option_map (λ more. p ∷ more) o ≡ Some (s ∷ more)) × (cells ≡ s ∷ more)
    by_option o h1 = grind (arith, nat_tests, first)

module _ (g : GridData) (s t : Cell) (points : List Cell) where
  -- a right walk is a short one
  right_short : (cost : Cost) → IsRightWalk g s t cost points → IsShortWalk g points cost
  right_short cost h1 = grind (arith, common_steps)

  right_begins : (cost : Cost) → IsRightWalk g s t cost points → begins_at s points ≡ true
  right_begins cost r = (unfolds_is points s r.cells r.unfolds).begins

  right_ends : (cost : Cost) → IsRightWalk g s t cost points → ends_at t points ≡ true
  right_ends cost r = ap (is_at t) (unfolds_is points s r.cells r.unfolds).ends
      ∙ ap (λ (c : Cell). is_same c t) r.walk.ends ∙ is_same-itself t

  -- and the other way round
  short_right : (cost : Cost) → IsShortWalk g points cost → begins_at s points ≡ true
      → ends_at t points ≡ true → IsRightWalk g s t cost points
  short_right cost w begins ends =
      let cells = begun points w.cells s w.unfolds begins in
      let unfolds = unfolds_is points s cells.0 cells.1 in
      record {
        cells = cells.0;
        unfolds = cells.1;
        walk = record {
          legal = ap (λ (l : List Cell). is_walk g l) (sym cells.2) ∙ w.walk;
          ends = at_cell t (last_of s cells.0) (ap (is_at t) (sym unfolds.ends) ∙ ends);
        };
        short = omega (arith, w.short, ap length cells.2);
        priced = ap cost_of (sym cells.2) ∙ w.priced;
      }

  -- so the answer is right, by the first point, by what the points come to, and by the last point
  is_right : IsWalkAnswer g s t points (walk_answer g s t points)
  is_right = by_begins (begins_at s points) refl
    where
      by_ends : begins_at s points ≡ true → (paid : Cost) → IsShortWalk g points paid → (b : Bool)
          → ends_at t points ≡ b → IsWalkAnswer g s t points (ended_answer (Ok paid) (length points) b)
      by_ends begins paid w true ends = short_right paid w begins ends
      by_ends begins paid w false off = short_of paid begins w off

      by_points : begins_at s points ≡ true → (answer : Result Cost BadAt) → IsPointsAnswer g points answer
          → IsWalkAnswer g s t points (ended_answer answer (length points) (ends_at t points))
      by_points begins (Ok paid) w = by_ends begins paid w (ends_at t points) refl
      by_points begins (Err bad) first = broken begins first

      by_begins : (b : Bool) → begins_at s points ≡ b → IsWalkAnswer g s t points (if b
          then ended_answer (points_answer g points) (length points) (ends_at t points) else Err 0)
      by_begins true begins = by_points begins (points_answer g points)
          ((points_are_answered g points (points_answer g points)).1 refl)
      by_begins false off = elsewhere off

  only_bad : (i : ℕ) → IsBadPoint g s t points i → walk_answer g s t points ≡ Err i
  only_bad i (elsewhere off) = rw off refl
  only_bad i (broken begins first) =
      rw (begins, (points_are_answered g points (bad_at i)).0 first) refl
  only_bad i (short_of paid begins w off) =
      rw (begins, (points_are_answered g points (Ok paid)).0 w, off) refl

  -- and no other is
  only_right : (answer : Result Cost ℕ) → IsWalkAnswer g s t points answer
      → walk_answer g s t points ≡ answer
  only_right (Ok paid) r = rw (
    right_begins paid r,
    (points_are_answered g points (Ok paid)).0 (right_short paid r),
    right_ends paid r,
  ) refl
  only_right (Err i) bad = only_bad i bad

pub walks_are_answered : WalksAreAnswered
walks_are_answered g s t points answer = (
  only_right g s t points answer,
  λ e. subst (λ (a : Result Cost ℕ). IsWalkAnswer g s t points a) e (is_right g s t points),
)

-- the number that tells that points are no right walk of a cost
module _ (g : GridData) (s t : Cell) (cost : Cost) (points : List Cell) where
  abbrev pub fault : Option ℕ
  fault = bad_number cost (length points) (walk_answer g s t points)

  pub fault_right : IsRightWalk g s t cost points → fault ≡ None
  fault_right right = rw
      ((walks_are_answered g s t points (Ok cost)).0 right, is_same_cost-of cost cost refl) refl

  pub fault_bad : (i : ℕ) → IsBadWalk g s t cost points i → fault ≡ Some i
  fault_bad i (bad_point bad) = rw ((walks_are_answered g s t points (Err i)).0 bad) refl
  fault_bad i (other paid right off) = rw ((walks_are_answered g s t points (Ok paid)).0 right, off) refl

  abbrev pub SaysOfWalk : Option ℕ → Type 0
  SaysOfWalk None = IsRightWalk g s t cost points
  SaysOfWalk (Some i) = IsBadWalk g s t cost points i

  pub fault_says : SaysOfWalk fault
  fault_says = by_answer (walk_answer g s t points)
      ((walks_are_answered g s t points (walk_answer g s t points)).1 refl)
    where
      by_cost : (paid : Cost) → IsRightWalk g s t paid points → (b : Bool) → is_same_cost paid cost ≡ b
          → SaysOfWalk (if b then None else Some (length points))
      by_cost paid right true same =
          subst (λ (c : Cost). IsRightWalk g s t c points) (is_same_cost-tells paid cost same) right
      by_cost paid right false off = other paid right off

      by_answer : (answer : Result Cost ℕ) → IsWalkAnswer g s t points answer
          → SaysOfWalk (bad_number cost (length points) answer)
      by_answer (Ok paid) right = by_cost paid right (is_same_cost paid cost) refl
      by_answer (Err i) bad = bad_point bad
