-- The run of a search on a map is made of the map's states, as its links lead to these alone.
use Rattle.std.proofs.Common.{◌∙◌, ap, ◌≡◌, ℕ, zero, suc, ◌<◌, ◌⊎◌, refl, Bool, true, ◌||◌, List, []}
use Rattle.std.proofs.Common.{◌∷◌, ◌++◌, arith}
use Rattle.std.proofs.lemmas.Bool.Decides.{nat_tests}
use Rattle.std.specs.Prelude.{Option}
use Rattle.grid_moves.specs.declared.Cell.{Cell}
use Rattle.grid_moves.specs.declared.Dir.{Dir}
use Rattle.search_run.specs.Ended.{IsEndedRun, is_one_of, IsCovered}
use Rattle.search_run.specs.Made.{run_of}
use Rattle.search_run.specs.Run.{Taken}
use Rattle.search_run.proofs.Existence.{ended_is_made, made_ends}
use Rattle.grid_moves.proofs.Legal.{is_same-itself}
use Rattle.best_first.specs.declared.state.State.{State}
use Rattle.best_first.specs.State.{is_same_state, start_at}
use Rattle.best_first.specs.Rule.{Links, search_rule, AreLinks}
use Rattle.best_first.specs.Made.{arrived_at, states_at, states_in_row, states_on_map}
use Rattle.best_first.proofs.States.{is_same_state-state, is_same_state-itself}
use Rattle.best_first.proofs.Telling.{numbers_tell}

last_or_before : (k n : ℕ) → k < suc n → (n ≡ k) ⊎ (k < n)
last_or_before k n h = grind arith

either_order : (a b c : Bool) → (a || (b || c)) ≡ ((a || b) || c)
either_order a b c = grind arith

module _ (width height : ℕ) (goal : Cell) (link : Links) (links : AreLinks width height link) where
  abbrev among : List State → State → Bool
  among all s = is_one_of (search_rule width goal link) all s

  among-append : (some others : List State) (s : State)
      → among (some ++ others) s ≡ (among some s || among others s)
  among-append [] others s = refl
  among-append (v ∷ some) others s =
      ap (λ (b : Bool). is_same_state v s || b) (among-append some others s)
      ∙ either_order (is_same_state v s) (among some s) (among others s)

  in_cell : (c : Cell) (a : Option Dir) → among (states_at c) (arrived_at c a) ≡ true
  unfolding states_at
  in_cell c a = grind (arith, nat_tests, is_same-itself)

  in_row : (n x y : ℕ) (a : Option Dir) → x < n
      → among (states_in_row y n) (arrived_at (record { x = x; y = y }) a) ≡ true
  unfolding states_in_row
  in_row zero x y a h = absurd (omega arith)
  in_row (suc n) x y a h =
      let cell = in_cell (record { x = x; y = y }) a in
      grind (arith, last_or_before x n h, among-append, in_row n x y a)

  in_map : (n x y : ℕ) (a : Option Dir) → x < width → y < n
      → among (states_on_map width n) (arrived_at (record { x = x; y = y }) a) ≡ true
  unfolding states_on_map
  in_map zero x y a h k = absurd (omega arith)
  in_map (suc n) x y a h k =
      let row = in_row width x y a h in
      grind (arith, last_or_before y n k, among-append, in_map n x y a h)

  covered : IsCovered (search_rule width goal link) (states_on_map width height)
  covered p u v c e =
      let on = links.lands p u v c e in in_map height v.cell.x v.cell.y v.arrival on.0 on.1

  -- the run from a cell that is made of them ends, and each that ends is it
  module _ (start : Cell) where
    pub run_ends : IsEndedRun (search_rule width goal link) (start_at start)
        (run_of (search_rule width goal link) (states_on_map width height) (start_at start))
    run_ends = made_ends (search_rule width goal link) is_same_state-state is_same_state-itself
        (start_at start) (states_on_map width height) covered

    pub ended_is_run : (run : List (Taken State))
        → IsEndedRun (search_rule width goal link) (start_at start) run
        → run ≡ run_of (search_rule width goal link) (states_on_map width height) (start_at start)
    ended_is_run = ended_is_made (search_rule width goal link) is_same_state-state is_same_state-itself
        (start_at start) (states_on_map width height) covered (numbers_tell width height goal link links)
