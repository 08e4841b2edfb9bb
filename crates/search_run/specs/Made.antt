-- The run that ends, as a function: each state after the start is found by a scan over a list of all states.
-- No search goes so; it is what each search comes to.
use Rattle.std.specs.Prelude.{◌≡◌, ℕ, zero, suc, nat_eq, refl, List, [], ◌∷◌, length}
use Rattle.std.specs.Prelude.{◌&&◌, Option, Some, None, if◌then◌else◌}
use Rattle.std.specs.Option.{option_map_or}
use Rattle.root2_cost.specs.declared.Cost.{Cost}
use Rattle.root2_cost.specs.Sums.{no_cost}
use Rattle.search_run.specs.Run.{Rule, Taken, Offer, goes_before, has_goal, is_taken, least_offer}

-- the state, taken by this offer
abbrev pub taken_by : {S : Type 0} → S → Option (Offer S) → Option (Taken S)
taken_by s None = None
taken_by s (Some o) = Some (record { state = s; cost = o.cost; parent = o.from })

-- the state, if it waits, as it would be taken
abbrev pub if_waiting : {S : Type 0} → Rule S → List (Taken S) → S → Option (Taken S)
if_waiting r run s = if is_taken r run s then None else taken_by s (least_offer r run s)

-- the one of the two that goes before the other; the second where neither does
abbrev pub former : {S : Type 0} → Rule S → Option (Taken S) → Option (Taken S) → Option (Taken S)
former r None y = y
former r (Some x) None = Some x
former r (Some x) (Some y) = if goes_before r x.state x.cost y.state y.cost then Some x else Some y

-- of the states that wait among these, the one that goes before all others
abbrev pub next_among : {S : Type 0} → Rule S → List (Taken S) → List S → Option (Taken S)
next_among r run [] = None
next_among r run (s ∷ rest) = former r (if_waiting r run s) (next_among r run rest)

-- the taken states, latest first, after at most so many more: until a goal is taken, or no state waits
abbrev pub run_on : {S : Type 0} → Rule S → List S → ℕ → List (Taken S) → List (Taken S)
run_on r all zero run = run
run_on r all (suc n) run =
    if has_goal r run then run else option_map_or (λ x. run_on r all n (x ∷ run)) (next_among r run all) run

-- the run from the start that ends, where these are all states: none is taken twice, so it takes at most as
-- many more as there are
unfoldable pub run_of : {S : Type 0} → Rule S → List S → S → List (Taken S)
run_of r all start = run_on r all (suc (length all))
    (record { state = start; cost = no_cost; parent = start } ∷ [])

-- a worked row: places 0 to 3 in a row, whose links go up and cost 1, and one from 0 to 2 that costs 3; the
-- goal is 3. From 0 on 1 is taken, then 2 over 1, then 3.
abbrev one_move : Cost
one_move = record { a = 1; b = 0 }

abbrev places : Rule ℕ
places = record {
  is_same = nat_eq;
  number = λ s. s;
  estimate = λ s. no_cost;
  is_goal = λ s. nat_eq s 3;
  link = λ p s t.
      if nat_eq t (suc s) then Some one_move
      else if nat_eq s 0 && nat_eq t 2 then Some (record { a = 3; b = 0 })
      else None;
}

-- the run's states from 0, with their costs and parents
abbrev at : ℕ → ℕ → ℕ → Taken ℕ
at s moves parent = record { state = s; cost = record { a = moves; b = 0 }; parent = parent }

pub up_the_row : run_of places (0 ∷ 1 ∷ 2 ∷ 3 ∷ []) 0 ≡ at 3 3 2 ∷ at 2 2 1 ∷ at 1 1 0 ∷ at 0 0 0 ∷ []
unfolding run_of
up_the_row = refl

-- from the goal itself nothing more is taken
pub at_the_goal : run_of places (0 ∷ 1 ∷ 2 ∷ 3 ∷ []) 3 ≡ at 3 0 3 ∷ []
unfolding run_of
at_the_goal = refl
