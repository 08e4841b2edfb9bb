-- What points come to: when it is the cost of a walk, and when a bad point.
use Rattle.std.proofs.lemmas.Bool.{cases_Bool}
use Rattle.std.proofs.lemmas.Bool.Decides.{nat_tests}
use Rattle.std.proofs.Common.{◌≡◌, ℕ, zero, suc, ◌+◌, ◌<◌, ◌≤◌, arith, Bool, true, false, ◌⊎◌, inl, inr, refl}
use Rattle.std.proofs.Common.{ap, sym, ◌∙◌, subst, List, [], ◌∷◌, ◌++◌, length, drop, get_or, length-append}
use Rattle.std.proofs.Common.{zero-add}
use Rattle.std.specs.Prelude.{if◌then◌else◌, nat_le, Option, Some, None, Result, Ok, Err, option_map}
use Rattle.std.proofs.lemmas.Bool.{le-leb, leb-true, not-true}
use Rattle.std.proofs.lemmas.List.{at_drop_more, at_drop_all}
use Rattle.root2_cost.specs.declared.Cost.{Cost}
use Rattle.root2_cost.specs.Sums.{add_costs, no_cost}
use Rattle.root2_cost.proofs.Sums.{add_costs-assoc, add_costs-no_cost_left, add_costs-no_cost_right}
use Rattle.grid_moves.specs.declared.Cell.{Cell}
use Rattle.grid_moves.specs.Grid.{GridData, is_free}
use Rattle.grid_moves.specs.Points.{steps_between, are_lined, unfolded_from}
use Rattle.grid_moves.specs.Least.{IsLeast}
use Rattle.grid_moves.specs.Walk.{is_walk, cost_of}
use Rattle.grid_moves.proofs.Short.{walk_free}
use Rattle.path_points.specs.declared.checking.BadAt.{BadAt}
use Rattle.path_points.specs.Checked.{most_steps, run, good_cost, is_legal_run, is_good_run, starts_free}
use Rattle.path_points.specs.Checked.{breaks_after, is_bad_at, IsFirstBad, IsPointsAnswer, IsShortWalk}
use Rattle.path_points.specs.Checked.{PointsAreAnswered, answer_from, bad_at, cost_after, points_answer}
use Rattle.path_points.specs.Checked.{steps_of}
use Rattle.grid_moves.proofs.Legal.{and_both}
use Rattle.path_points.proofs.Filling.{segment-length}
use Rattle.path_points.proofs.Joined.{run_joined, run_parts, run_free, run_cost_joined, run_counts}

-- the answer that the points cost this much
abbrev pub costs : Cost → Result Cost BadAt
costs cost = Ok cost

-- the steps so far and those of the run
steps_on :
    (cost : Cost) (u v : Cell)
    → steps_of (cost_after cost u v) ≡ steps_of cost + steps_between u v
steps_on cost u v = let counts = run_counts u v in omega arith

-- what a good point says
record Good (g : GridData) (s : ℕ) (u v : Cell) : Type 0 where
  lined : are_lined u v ≡ true
  walk : is_walk g (u ∷ run u v) ≡ true
  few : s + steps_between u v ≤ most_steps
  free : is_free g v ≡ true

good_is : (g : GridData) (s : ℕ) (u v : Cell) → is_good_run g s u v ≡ true → Good g s u v
good_is g s u v h =
    let good = and_both (is_legal_run g u v) (nat_le (s + steps_between u v) most_steps) h in
    let legal = and_both (are_lined u v) (is_walk g (u ∷ run u v)) good.0 in
    record {
      lined = legal.0;
      walk = legal.1;
      few = leb-true (s + steps_between u v) most_steps good.1;
      free = run_free g u v legal.1;
    }

pub good_few :
    (g : GridData) (cost : Cost) (u v : Cell) → is_good_run g (steps_of cost) u v ≡ true
    → steps_of (cost_after cost u v) ≤ most_steps
good_few g cost u v h =
    let on = steps_on cost u v in let few = (good_is g (steps_of cost) u v h).few in omega arith

good_from :
    (g : GridData) (s : ℕ) (u v : Cell) → are_lined u v ≡ true → is_walk g (u ∷ run u v) ≡ true
    → s + steps_between u v ≤ most_steps → is_good_run g s u v ≡ true
good_from g s u v l w f = rw (l, w, le-leb (s + steps_between u v) most_steps f) refl

if_ok :
    {A B : Type 0} (b : Bool) (r : Result A B) (e : B) (x : A) → (if b then r else Err e) ≡ Ok x
    → (b ≡ true) × (r ≡ Ok x)
if_ok true r e x h = (refl, h)
if_ok false r e x h = absurd (cc)

if_err :
    {A B : Type 0} (b : Bool) (r : Result A B) (e f : B) → (if b then r else Err e) ≡ Err f
    → ((b ≡ true) × (r ≡ Err f)) ⊎ ((b ≡ false) × (e ≡ f))
if_err true r e f h = inl (refl, h)
if_err false r e f h = inr (refl, cc)

if_some :
    {A B : Type 0} (b : Bool) (f : A → B) (o : Option A) (y : B)
    → (if b then option_map f o else None) ≡ Some y → (x : A) × (b ≡ true) × (o ≡ Some x) × (f x ≡ y)
if_some b f o y h1 = grind (arith, cases_Bool)

-- the next point is bad, or the check goes on from it; at the end the cost stands
pub checked_off :
    (g : GridData) (i : ℕ) (u : Cell) (points : List Cell) (cost : Cost) (d : Cell) → i < length points
    → is_good_run g (steps_of cost) u (get_or points i d) ≡ false
    → answer_from g i u (drop i points) cost ≡ bad_at (i + 1)
checked_off g i u points cost d h e =
    at_drop_more (λ points. answer_from g i u points cost) points i d h
    ∙ rw e refl

pub checked_on :
    (g : GridData) (i : ℕ) (u : Cell) (points : List Cell) (cost : Cost) (d : Cell) → i < length points
    → is_good_run g (steps_of cost) u (get_or points i d) ≡ true
    → answer_from g i u (drop i points) cost ≡ answer_from g (i + 1) (get_or points i d)
    (drop (i + 1) points) (cost_after cost u (get_or points i d))
checked_on g i u points cost d h e =
    at_drop_more (λ points. answer_from g i u points cost) points i d h
    ∙ rw e refl

pub checked_end :
    (g : GridData) (i : ℕ) (u : Cell) (points : List Cell) (cost : Cost) → length points ≤ i
    → answer_from g i u (drop i points) cost ≡ Ok cost
checked_end g i u points cost h = at_drop_all (λ points. answer_from g i u points cost) points i h

-- the cost of the run tells whether it is good
pub good_none : (g : GridData) (s : ℕ) (u v : Cell) → good_cost g s u v ≡ None → is_good_run g s u v ≡ false
good_none g s u v h1 = grind (arith, nat_tests)

pub good_some :
    (g : GridData) (s : ℕ) (u v : Cell) (cost : Cost) → good_cost g s u v ≡ Some cost
    → (is_good_run g s u v ≡ true) × (cost ≡ cost_of (u ∷ run u v))
good_some g s u v cost h1 = grind (arith, nat_tests)

-- after u the points unfold to these cells, a walk that brings the cost to the total
record GoesOn (g : GridData) (u : Cell) (points : List Cell) (cost total : Cost) : Type 0 where
  cells : List Cell
  unfolds : unfolded_from u points ≡ Some cells
  legal : is_walk g (u ∷ cells) ≡ true
  short : steps_of cost + length cells ≤ most_steps
  priced : add_costs cost (cost_of (u ∷ cells)) ≡ total

-- the cost of a walk that goes on from a run
priced_on :
    (cost : Cost) (u v : Cell) (cells : List Cell)
    → add_costs cost (cost_of (u ∷ (run u v ++ cells)))
    ≡ add_costs (cost_after cost u v) (cost_of (v ∷ cells))
priced_on cost u v cells = grind (arith, cases_Bool, run_cost_joined, add_costs-assoc)

run_and_more : (u v : Cell) (cells : List Cell) → length (run u v ++ cells) ≡ steps_between u v + length cells
run_and_more u v cells =
    length-append (run u v) cells
    ∙ ap (λ n. n + length cells) (segment-length (steps_between u v) u v)

unfolded_on :
    (u v : Cell) (points cells : List Cell) → are_lined u v ≡ true → unfolded_from v points ≡ Some cells
    → unfolded_from u (v ∷ points) ≡ Some (run u v ++ cells)
unfolded_on u v points cells l e = rw (l, e) refl

ok_goes :
    (g : GridData) (i : ℕ) (u : Cell) (points : List Cell) (cost total : Cost) → is_free g u ≡ true
    → steps_of cost ≤ most_steps → answer_from g i u points cost ≡ Ok total
    → GoesOn g u points cost total
ok_goes g i u [] cost total f s h =
    record {
      cells = [];
      unfolds = refl;
      legal = f;
      short = omega arith;
      priced = add_costs-no_cost_right cost ∙ cc;
    }
ok_goes g i u (v ∷ points) cost total f s h =
    let step = if_ok (is_good_run g (steps_of cost) u v)
    (answer_from g (i + 1) v points (cost_after cost u v)) _ total h in
    let good = good_is g (steps_of cost) u v step.0 in
    let on = steps_on cost u v in
    let t =
    ok_goes g (i + 1) v points (cost_after cost u v) total good.free (omega (arith, good.few)) step.1 in
    let more = run_and_more u v t.cells in
    record {
      cells = run u v ++ t.cells;
      unfolds = unfolded_on u v points t.cells good.lined t.unfolds;
      legal = run_joined g u v t.cells good.walk t.legal;
      short = omega (arith, t.short);
      priced = priced_on cost u v t.cells ∙ t.priced;
    }

goes_ok :
    (g : GridData) (i : ℕ) (u : Cell) (points : List Cell) (cost total : Cost)
    → GoesOn g u points cost total → answer_from g i u points cost ≡ Ok total
goes_ok g i u [] cost total t =
    let none : t.cells ≡ [] = let e = t.unfolds in cc in
    let same : cost ≡ total =
    sym (add_costs-no_cost_right cost)
    ∙ ap (λ (l : List Cell). add_costs cost (cost_of (u ∷ l))) (sym none)
    ∙ t.priced in
    ap costs same
goes_ok g i u (v ∷ points) cost total t =
    let parts = if_some (are_lined u v) (λ (l : List Cell). run u v ++ l) (unfolded_from v points)
    t.cells t.unfolds in
    let is = sym parts.3 in
    let walk = run_parts g u v parts.0 (ap (λ (l : List Cell). is_walk g (u ∷ l)) parts.3 ∙ t.legal) in
    let on = steps_on cost u v in
    let more : length t.cells ≡ steps_between u v + length parts.0 =
    ap (λ (l : List Cell). length l) is
    ∙ run_and_more u v parts.0 in
    let good = good_from g (steps_of cost) u v parts.1 walk.0 (omega (arith, t.short)) in
    rw good (goes_ok g (i + 1) v points (cost_after cost u v) total (record {
      cells = parts.0;
      unfolds = parts.2;
      legal = walk.1;
      short = omega (arith, t.short);
      priced =
          sym (priced_on cost u v parts.0)
          ∙ ap (λ (l : List Cell). add_costs cost (cost_of (u ∷ l))) parts.3
          ∙ t.priced;
    }))

-- the first break is that after the n-th point from u on
FirstBreak : GridData → ℕ → Cell → List Cell → ℕ → Type 0
FirstBreak g s u points n = IsLeast (λ k. breaks_after g s (u ∷ points) k ≡ true) 0 n

-- where the first of the later points is bad, after a good one
first_later :
    (g : GridData) (s : ℕ) (u v : Cell) (points : List Cell) (n : ℕ) → is_good_run g s u v ≡ true
    → FirstBreak g (s + steps_between u v) v points n → FirstBreak g s u (v ∷ points) (suc n)
unfolding FirstBreak
first_later g s u v points n good first =
    record { in_range = omega arith; holds = first.holds; least = before }
  where
    before : (k : ℕ) → 0 ≤ k → k < suc n → ¬ (breaks_after g s (u ∷ v ∷ points) k ≡ true)
    before zero l h b = let bad = not-true (is_good_run g s u v) b in cc
    before (suc k) l h b = first.least k (omega arith) (omega arith) b

later_first :
    (g : GridData) (s : ℕ) (u v : Cell) (points : List Cell) (n : ℕ) → FirstBreak g s u (v ∷ points) (suc n)
    → FirstBreak g (s + steps_between u v) v points n
unfolding FirstBreak
later_first g s u v points n first = record {
  in_range = omega arith;
  holds = first.holds;
  least = λ k l h b. first.least (suc k) (omega arith) (omega arith) b;
}

-- an error names the first bad point
err_first :
    (g : GridData) (i : ℕ) (u : Cell) (points : List Cell) (cost : Cost) (bad : BadAt)
    → answer_from g i u points cost ≡ Err bad
    → (n : ℕ) × (bad.0 ≡ i + suc n) × FirstBreak g (steps_of cost) u points n
unfolding FirstBreak
err_first g i u [] cost bad h = absurd (cc)
err_first g i u (v ∷ points) cost bad h =
    elim (if_err (is_good_run g (steps_of cost) u v) on (record { 0 = i + 1 }) bad h) [
      | inl later ↦
          let rest = err_first g (i + 1) v points (cost_after cost u v) bad later.1 in
          let place : bad.0 ≡ i + suc (suc rest.0) = (let e = rest.1 in omega arith) in (
            suc rest.0,
            place,
            first_later g (steps_of cost) u v points rest.0 later.0
                (subst (λ s. FirstBreak g s v points rest.0) (steps_on cost u v) rest.2),
          )
      | inr now ↦
          let place : bad.0 ≡ i + 1 = ap (λ (b : BadAt). b.0) (sym now.1) in (
            0,
            place,
            record { in_range = omega arith; holds = rw now.0 refl; least = λ k l h. absurd (omega arith) },
          )
    ]
  where
    on : Result Cost BadAt
    on = answer_from g (i + 1) v points (cost_after cost u v)

-- the first bad point is named by an error
first_err :
    (g : GridData) (i : ℕ) (u : Cell) (points : List Cell) (cost : Cost) (n : ℕ)
    → FirstBreak g (steps_of cost) u points n → answer_from g i u points cost ≡ bad_at (i + suc n)
unfolding FirstBreak
first_err g i u [] cost n first = let e = first.holds in absurd (cc)
first_err g i u (v ∷ points) cost zero first =
    rw (not-true (is_good_run g (steps_of cost) u v) first.holds) refl
first_err g i u (v ∷ points) cost (suc n) first =
    let good : is_good_run g (steps_of cost) u v ≡ true = by_test (is_good_run g (steps_of cost) u v) refl in
    let rest = first_err g (i + 1) v points (cost_after cost u v) n
    (subst (λ s. FirstBreak g s v points n) (sym (steps_on cost u v))
    (later_first g (steps_of cost) u v points n first)) in
    let same : i + 1 + suc n ≡ i + suc (suc n) = omega arith in
    rw good (rest ∙ ap bad_at same)
  where
    by_test : (b : Bool) → is_good_run g (steps_of cost) u v ≡ b → is_good_run g (steps_of cost) u v ≡ true
    by_test true e = e
    by_test false e = absurd (first.least 0 (omega arith) (omega arith) (rw e refl))

short_free :
    (g : GridData) (points : List Cell) (cost : Cost) → IsShortWalk g points cost
    → starts_free g points ≡ true
short_free g points cost h1 = grind (arith, nat_tests, if_some, walk_free)

-- without a free first point, that point is the first bad one
bad_start : (g : GridData) (points : List Cell) → starts_free g points ≡ false → IsFirstBad g points 0
bad_start g points h =
    record { in_range = omega arith; holds = rw h refl; least = λ k l b. absurd (omega arith) }

only_start : (g : GridData) (points : List Cell) (i : ℕ) → starts_free g points ≡ false
    → IsFirstBad g points i → bad_at 0 ≡ bad_at i
only_start g points zero h first = refl
only_start g points (suc n) h first = absurd (first.least 0 (omega arith) (omega arith) (rw h refl))

module _ (g : GridData) (u : Cell) (points : List Cell) (free : is_free g u ≡ true) where
  goes_short : (total : Cost) → GoesOn g u points no_cost total → IsShortWalk g (u ∷ points) total
  goes_short total t = record {
    cells = u ∷ t.cells;
    unfolds = ap (λ (o : Option (List Cell)). option_map (λ cells. u ∷ cells) o) t.unfolds;
    walk = t.legal;
    short = omega (arith, t.short);
    priced = sym (add_costs-no_cost_left (cost_of (u ∷ t.cells))) ∙ t.priced;
  }

  short_goes : (total : Cost) → IsShortWalk g (u ∷ points) total → GoesOn g u points no_cost total
  short_goes total w =
      let t = if_some true (λ (cells : List Cell). u ∷ cells) (unfolded_from u points) w.cells w.unfolds in
      let few : suc (length t.0) ≡ length w.cells = ap (λ (l : List Cell). length l) t.3 in
      record {
        cells = t.0;
        unfolds = t.2;
        legal = ap (λ (l : List Cell). is_walk g l) t.3 ∙ w.walk;
        short = omega (arith, w.short);
        priced =
            add_costs-no_cost_left (cost_of (u ∷ t.0))
            ∙ ap (λ (l : List Cell). cost_of l) t.3
            ∙ w.priced;
      }

  first_bad : (n : ℕ) → FirstBreak g 0 u points n → IsFirstBad g (u ∷ points) (suc n)
  unfolding FirstBreak
  first_bad n first = record { in_range = omega arith; holds = first.holds; least = before }
    where
      before : (k : ℕ) → 0 ≤ k → k < suc n → ¬ (is_bad_at g (u ∷ points) k ≡ true)
      before zero l h b = let bad = not-true (is_free g u) b in cc
      before (suc k) l h b = first.least k (omega arith) (omega arith) b

  bad_first : (i : ℕ) → IsFirstBad g (u ∷ points) i → answer_from g 0 u points no_cost ≡ bad_at i
  unfolding FirstBreak
  bad_first zero first = let bad = not-true (is_free g u) first.holds in absurd (cc)
  bad_first (suc n) first =
      first_err g 0 u points no_cost n (record {
        in_range = omega arith;
        holds = first.holds;
        least = λ k l h b. first.least (suc k) (omega arith) (omega arith) b;
      })
      ∙ ap bad_at (zero-add (suc n))

  -- from a free first point the answer is right
  right_from : (answer : Result Cost BadAt) → answer_from g 0 u points no_cost ≡ answer
      → IsPointsAnswer g (u ∷ points) answer
  right_from (Ok total) e = goes_short total (ok_goes g 0 u points no_cost total free (omega arith) e)
  right_from (Err bad) e =
      let first = err_first g 0 u points no_cost bad e in
      subst (λ i. IsFirstBad g (u ∷ points) i) (sym (first.1 ∙ zero-add (suc first.0)))
      (first_bad first.0 first.2)

is_right : (g : GridData) (points : List Cell) → IsPointsAnswer g points (points_answer g points)
is_right g [] = bad_start g [] refl
is_right g (u ∷ points) = by_free (is_free g u) refl
  where
    by_free : (b : Bool) → is_free g u ≡ b
        → IsPointsAnswer g (u ∷ points) (if b then answer_from g 0 u points no_cost else bad_at 0)
    by_free true free = right_from g u points free (answer_from g 0 u points no_cost) refl
    by_free false blocked = bad_start g (u ∷ points) blocked

-- and no other is
only_right : (g : GridData) (points : List Cell) (answer : Result Cost BadAt)
    → IsPointsAnswer g points answer → points_answer g points ≡ answer
only_right g [] (Ok cost) w = let free = short_free g [] cost w in absurd (cc)
only_right g [] (Err bad) first = only_start g [] bad.0 refl first
only_right g (u ∷ points) (Ok cost) w =
    let free : is_free g u ≡ true = short_free g (u ∷ points) cost w in
    rw free (goes_ok g 0 u points no_cost cost (short_goes g u points free cost w))
only_right g (u ∷ points) (Err bad) first = by_free (is_free g u) refl
  where
    by_free : (b : Bool) → is_free g u ≡ b
        → (if b then answer_from g 0 u points no_cost else bad_at 0) ≡ bad_at bad.0
    by_free true free = bad_first g u points free bad.0 first
    by_free false blocked = only_start g (u ∷ points) bad.0 blocked first

pub points_are_answered : PointsAreAnswered
points_are_answered g points answer = (
  only_right g points answer,
  λ e. subst (λ (a : Result Cost BadAt). IsPointsAnswer g points a) e (is_right g points),
)

-- the first point decides, or the check goes on from it
pub answer_at_start : (g : GridData) (points : List Cell) → starts_free g points ≡ false
    → bad_at 0 ≡ points_answer g points
answer_at_start g [] h = refl
answer_at_start g (u ∷ points) h = rw h refl

pub answer_of : (g : GridData) (points : List Cell) (u : Cell) (others : List Cell) → points ≡ u ∷ others
    → is_free g u ≡ true → answer_from g 0 u others no_cost ≡ points_answer g points
answer_of g points u others is free = rw (is, free) refl
