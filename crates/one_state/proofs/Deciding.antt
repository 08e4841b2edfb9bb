-- A search goes on as long as something is offered; and whether a list is a run is decided by the test.
use Rattle.std.proofs.Common.{◌≡◌, refl, ap, sym, subst, Bool, true, false, not, ◌&&◌, List, [], ◌∷◌, arith}
use Rattle.std.proofs.lemmas.Bool.Decides.{nat_tests}
use Rattle.root2_cost.specs.Signed.{is_signed_less}
use Rattle.root2_cost.specs.Sums.{is_same_cost}
use Rattle.root2_cost.proofs.Differences.{signed_less-at_most}
use Rattle.root2_cost.proofs.Less.{is_same_cost-of, is_same_cost-tells}
use Rattle.grid_moves.specs.Move.{is_same}
use Rattle.grid_moves.proofs.Legal.{and_both, is_same-cell, is_same-itself}
use Rattle.pruning.specs.declared.Arrival.{Arrival}
use Rattle.pruning.specs.declared.Arrival.TheVariants.{Start, By}
use Rattle.pruning.proofs.Table.{by_test, same_dir}
use Rattle.one_state.specs.Search.{Search, Taken, begins, IsIn, here, there, IsOffered, sum_of}
use Rattle.one_state.specs.Search.{IsNext, IsRun, begun, further}
use Rattle.one_state.specs.Tested.{has_cell, is_among, is_next, is_run, is_same_arrival, is_same_taken}
use Rattle.one_state.specs.Tested.{none_less, offered_by}
use Rattle.one_state.specs.Laws.{GoesOnOrNone, goes_on, is_over, RunsAreDecided, SearchesEndRight}
use Rattle.one_state.proofs.Sums.{Below, Below-then, Below-same}
use Rattle.one_state.proofs.Settling.{each_of, no_member}
use Rattle.one_state.proofs.Listing.{has_cell-none, none-has_cell, offered-complete, offered-sound, or_rest}
use Rattle.one_state.proofs.Listing.{same_taken}
use Rattle.one_state.proofs.Right.{none_left}

module _ (p : Search) where
  -- one of these has the least sum
  record HasLeast (all : List Taken) : Type 0 where
    one : Taken
    member : IsIn one all
    least : (y : Taken) → IsIn y all → Below (sum_of p one) (sum_of p y)

  least_of : (x : Taken) (all : List Taken) → HasLeast (x ∷ all)
  least_of x [] = record {
    one = x;
    member = here [];
    least = each_of (λ y. Below (sum_of p x) (sum_of p y)) x [] (Below-same refl)
        (λ y m. absurd (no_member y m));
  }
  least_of x (z ∷ all) =
      let r = least_of z all in
      by_test (is_signed_less (sum_of p x) (sum_of p r.one))
      (λ e.
      let less : Below (sum_of p x) (sum_of p r.one) =
      record { is = signed_less-at_most (sum_of p x) (sum_of p r.one) e } in
      record {
        one = x;
        member = here (z ∷ all);
        least = each_of (λ y. Below (sum_of p x) (sum_of p y)) x (z ∷ all) (Below-same refl)
            (λ y m. Below-then less (r.least y m));
      })
      (λ e. record {
        one = r.one;
        member = there x (z ∷ all) r.member;
        least = each_of (λ y. Below (sum_of p r.one) (sum_of p y)) x (z ∷ all) (record { is = e }) r.least;
      })

  next_of : (taken : List Taken) → HasLeast (offered_by p taken) → (x : Taken) × IsNext p taken x
  next_of taken l = (
    l.one,
    record {
      offered = offered-sound p taken l.one l.member;
      least = λ y o. (l.least y (offered-complete p taken y o)).is;
    },
  )

pub searches_end_right : SearchesEndRight
searches_end_right p taken sound run n = by_list (offered_by p taken) refl
  where
    by_list : (xs : List Taken) → offered_by p taken ≡ xs → GoesOnOrNone p taken
    by_list [] e =
        let nothing : (x : Taken) → ¬ IsOffered p taken x =
        λ x o. no_member x (subst (λ (ys : List Taken). IsIn x ys) e (offered-complete p taken x o)) in
        is_over nothing (none_left p sound taken run n nothing)
    by_list (x ∷ xs) e =
        let next = next_of p taken (subst (λ (ys : List Taken). HasLeast p ys) (sym e) (least_of p x xs)) in
        goes_on next.0 next.1

same_arrival : (a b : Arrival) → is_same_arrival a b ≡ true → a ≡ b
same_arrival Start Start h = refl
same_arrival Start (By e) h = absurd (cc)
same_arrival (By d) Start h = absurd (cc)
same_arrival (By d) (By e) h = ap (λ c. By c) (same_dir d e h)

itself_arrived : (a : Arrival) → is_same_arrival a a ≡ true
itself_arrived Start = refl
itself_arrived (By d) = grind (arith, nat_tests)

taken_tells : (x y : Taken) → is_same_taken x y ≡ true → x ≡ y
taken_tells x y h =
    let cells = is_same x.state.cell y.state.cell in
    let arrivals = is_same_arrival x.state.arrival y.state.arrival in
    let costs = is_same_cost x.cost y.cost in
    let last = and_both (cells && arrivals && costs) (is_same x.parent y.parent) h in
    let third = and_both (cells && arrivals) costs last.0 in
    let second = and_both cells arrivals third.0 in
    same_taken x y (is_same-cell x.state.cell y.state.cell second.0)
    (same_arrival x.state.arrival y.state.arrival second.1) (is_same_cost-tells x.cost y.cost third.1)
    (is_same-cell x.parent y.parent last.1)

taken_itself : (x : Taken) → is_same_taken x x ≡ true
taken_itself x = rw (
  is_same-itself x.state.cell,
  itself_arrived x.state.arrival,
  is_same_cost-of x.cost x.cost refl,
  is_same-itself x.parent,
) refl

among-sound : (x : Taken) (all : List Taken) → is_among x all ≡ true → IsIn x all
among-sound x [] h = absurd (cc)
among-sound x (y ∷ all) h = by_test (is_same_taken x y)
    (λ e. subst (λ (z : Taken). IsIn z (y ∷ all)) (sym (taken_tells x y e)) (here all))
    (λ e. there y all (among-sound x all (or_rest (is_same_taken x y) (is_among x all) h e)))

among-complete : (x : Taken) (all : List Taken) → IsIn x all → is_among x all ≡ true
among-complete x [] m = absurd (no_member x m)
among-complete x (y ∷ all) m = each_of (λ z. is_among z (y ∷ all) ≡ true) y all
    (rw (taken_itself y) refl)
    (λ z k. by_test (is_same_taken z y) (λ e. rw e refl) (λ e. rw (e, among-complete z all k) refl)) x m

module _ (p : Search) (x : Taken) where
  less-sound : (all : List Taken) → none_less p x all ≡ true → (y : Taken) → IsIn y all
      → is_signed_less (sum_of p y) (sum_of p x) ≡ false
  less-sound [] h y m = absurd (no_member y m)
  less-sound (z ∷ all) h y m =
      let both = and_both (not (is_signed_less (sum_of p z) (sum_of p x))) (none_less p x all) h in
      each_of (λ y. is_signed_less (sum_of p y) (sum_of p x) ≡ false) z all
      (is_not (is_signed_less (sum_of p z) (sum_of p x)) both.0) (less-sound all both.1) y m
    where
      is_not : (b : Bool) → not b ≡ true → b ≡ false
      is_not true h = absurd (cc)
      is_not false h = refl

  less-complete : (all : List Taken)
      → ((y : Taken) → IsIn y all → is_signed_less (sum_of p y) (sum_of p x) ≡ false)
      → none_less p x all ≡ true
  less-complete [] h = refl
  less-complete (z ∷ all) h = rw (h z (here all), less-complete all (λ y m. h y (there z all m))) refl

  next-sound : (taken : List Taken) → is_next p taken x ≡ true → IsNext p taken x
  next-sound taken h =
      let both = and_both (is_among x (offered_by p taken)) (none_less p x (offered_by p taken)) h in
      record {
        offered = offered-sound p taken x (among-sound x (offered_by p taken) both.0);
        least = λ y o. less-sound (offered_by p taken) both.1 y (offered-complete p taken y o);
      }

  next-complete : (taken : List Taken) → IsNext p taken x → is_next p taken x ≡ true
  next-complete taken n = rw (
    among-complete x (offered_by p taken) (offered-complete p taken x n.offered),
    less-complete (offered_by p taken) (λ y m. n.least y (offered-sound p taken y m)),
  ) refl

run-sound : (p : Search) (taken : List Taken) → is_run p taken ≡ true → IsRun p taken
run-sound p [] h = absurd (cc)
run-sound p (x ∷ []) h =
    subst (λ (z : Taken). IsRun p (z ∷ [])) (sym (taken_tells x (begins p) h)) begun
run-sound p (x ∷ y ∷ earlier) h =
    let last = and_both (is_run p (y ∷ earlier) && not (has_cell (y ∷ earlier) p.goal))
    (is_next p (y ∷ earlier) x) h in
    let both = and_both (is_run p (y ∷ earlier)) (not (has_cell (y ∷ earlier) p.goal)) last.0 in
    further x (y ∷ earlier) (run-sound p (y ∷ earlier) both.0)
    (has_cell-none (y ∷ earlier) p.goal (is_not (has_cell (y ∷ earlier) p.goal) both.1))
    (next-sound p x (y ∷ earlier) last.1)
  where
    is_not : (b : Bool) → not b ≡ true → b ≡ false
    is_not true h = absurd (cc)
    is_not false h = refl

run-complete : (p : Search) (taken : List Taken) → IsRun p taken → is_run p taken ≡ true
run-complete p _ begun = taken_itself (begins p)
run-complete p _ (further x [] r n o) = elim r [ ]
run-complete p _ (further x (y ∷ earlier) r n o) = rw (
  run-complete p (y ∷ earlier) r,
  none-has_cell (y ∷ earlier) p.goal n,
  next-complete p x (y ∷ earlier) o,
) refl

pub runs_are_decided : RunsAreDecided
runs_are_decided p taken = record { sound = run-sound p taken; complete = run-complete p taken }
