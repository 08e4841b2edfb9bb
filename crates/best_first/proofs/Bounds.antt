-- A run takes at most nine states for each cell.
use Rattle.std.proofs.lemmas.Bool.Decides.{nat_tests}
use Rattle.std.proofs.lemmas.Grind.{common_steps}
use Rattle.std.proofs.Common.{◌≡◌, ℕ, zero, suc, ◌*◌, ◌<◌, ◌≤◌, length, List, [], ◌∷◌, refl, ap, sym}
use Rattle.std.proofs.Common.{◌∙◌, subst, false, arith}
use Rattle.std.specs.Prelude.{Some, slice_get}
use Rattle.std.proofs.lemmas.Option.{same_Some}
use Rattle.std.proofs.lemmas.Bool.{or_parts}
use Rattle.grid_moves.specs.declared.Cell.{Cell}
use Rattle.grid_moves.proofs.Places.{one_cell, number_below}
use Rattle.search_run.specs.Run.{Taken, IsIn, here, there, IsRun, is_taken}
use Rattle.best_first.specs.declared.state.State.{State}
use Rattle.best_first.specs.State.{state_number, is_same_state, start_at}
use Rattle.best_first.specs.Rule.{Links, search_rule, LiesOn, IsPosed}
use Rattle.best_first.proofs.Numbers.{at_most}
use Rattle.best_first.proofs.Searching.{run_on}
use Rattle.best_first.proofs.States.{arrival_small, one_arrival, same_state, is_same_state-itself}

-- what stands at a place is in the list
pub member : (xs : List (Taken State)) (i : ℕ) (u : Taken State) → slice_get xs i ≡ Some u → IsIn u xs
member [] i u h = absurd (cc)
member (x ∷ xs) zero u h = subst (λ (w : Taken State). IsIn w (x ∷ xs)) (same_Some x u h) (here xs)
member (x ∷ xs) (suc i) u h = there x xs (member xs i u h)

-- numbers of states on the map tell them apart
pub one_state : (width height : ℕ) (s t : State) → LiesOn width height s.cell → LiesOn width height t.cell
    → state_number width s ≡ state_number width t → s ≡ t
one_state width height s t a b e =
    grind (arith, nat_tests, common_steps, arrival_small, same_state, one_cell, one_arrival)

-- and are below nine times the number of cells
pub state_below : (width height : ℕ) (s : State) → LiesOn width height s.cell
    → state_number width s < height * width * 9
state_below width height s a = grind (arith, nat_tests, common_steps, number_below, arrival_small)

module _ {width height : ℕ} {start goal : Cell} {link : Links}
    (posed : IsPosed width height start goal link) where
  -- no state is taken twice
  later_other : (x : Taken State) (some : List (Taken State))
      → is_taken (search_rule width goal link) some x.state ≡ false → (u : Taken State) → IsIn u some
      → u.state ≡ x.state → ⊥
  later_other x [] n u m e = elim m [ ]
  later_other x (y ∷ some) n u (here z) e =
      grind (arith, nat_tests, common_steps, or_parts, is_same_state-itself)
  later_other x (y ∷ some) n u (there z w m) e = later_other x some (or_parts (is_same_state y.state x.state)
      (is_taken (search_rule width goal link) some x.state) n).1 u m e

  pub apart_run : (run : List (Taken State)) → IsRun (search_rule width goal link) (start_at start) run
      → (i j : ℕ) (a b : Taken State) → slice_get run i ≡ Some a → slice_get run j ≡ Some b
      → a.state ≡ b.state → i ≡ j
  apart_run [] is i j a b h g e = absurd is
  apart_run (x ∷ []) is zero zero a b h g e = refl
  apart_run (x ∷ []) is zero (suc j) a b h g e = absurd (cc)
  apart_run (x ∷ []) is (suc i) j a b h g e = absurd (cc)
  apart_run (x ∷ y ∷ earlier) is zero zero a b h g e = refl
  apart_run (x ∷ y ∷ earlier) is zero (suc j) a b h g e =
      let one : x ≡ a = same_Some x a h in
      absurd (later_other x (y ∷ earlier) is.2.waits b (member (y ∷ earlier) j b g)
      (sym e ∙ ap (λ (u : Taken State). u.state) (sym one)))
  apart_run (x ∷ y ∷ earlier) is (suc i) zero a b h g e =
      let one : x ≡ b = same_Some x b g in
      absurd (later_other x (y ∷ earlier) is.2.waits a (member (y ∷ earlier) i a h)
      (e ∙ ap (λ (u : Taken State). u.state) (sym one)))
  apart_run (x ∷ y ∷ earlier) is (suc i) (suc j) a b h g e =
      ap (λ (k : ℕ). suc k) (apart_run (y ∷ earlier) is.0 i j a b h g e)

  pub few_taken : (run : List (Taken State)) → IsRun (search_rule width goal link) (start_at start) run
      → length run ≤ height * width * 9
  few_taken run is = at_most (λ (u : Taken State). state_number width u.state) run (height * width * 9)
      (λ i j a b h g e. apart_run run is i j a b h g (one_state width height a.state b.state
      (run_on posed run is a (member run i a h))
      (run_on posed run is b (member run j b g)) e))
      (λ i u h. state_below width height u.state
      (run_on posed run is u (member run i u h)))
