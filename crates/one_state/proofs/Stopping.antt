-- With the stops of each kind no first stop is passed.
use Rattle.std.proofs.Common.{◌≡◌, ◌⊎◌, ℕ, zero, suc, ◌<◌, ◌≤◌, inl, inr, arith, refl, ap, sym, ◌∙◌, subst}
use Rattle.std.proofs.Common.{Bool, true, not, ◌||◌}
use Rattle.std.specs.Prelude.{Option, Some, None, nat_eq, nat_le}
use Rattle.std.proofs.lemmas.Bool.{or_left, or_right}
use Rattle.std.proofs.lemmas.Bool.Decides.{nat_tests}
use Rattle.grid_moves.specs.declared.Cell.{Cell}
use Rattle.grid_moves.specs.declared.Corner.TheVariants.{Never}
use Rattle.grid_moves.specs.declared.Dir.{Dir}
use Rattle.grid_moves.specs.declared.Dir.TheVariants.{S}
use Rattle.grid_moves.specs.Examples.{pillar}
use Rattle.grid_moves.specs.Grid.{GridData}
use Rattle.grid_moves.specs.Least.{FindsLeast, IsLeast}
use Rattle.grid_moves.specs.Move.{cell_after, is_dir, is_same}
use Rattle.grid_moves.specs.Points.{steps_between}
use Rattle.grid_moves.proofs.Legal.{and_both, is_same-itself}
use Rattle.pruning.specs.declared.turns.Side.{Side}
use Rattle.pruning.specs.declared.turns.Side.TheVariants.{Right, Left}
use Rattle.pruning.specs.Turns.{turn}
use Rattle.pruning.specs.Explored.{GoesOn, Reached}
use Rattle.pruning.specs.First.{first_on_run, first_stop, is_marked}
use Rattle.pruning.specs.Marked.{run_end}
use Rattle.pruning.specs.Stop.{IsStop, at_goal, marked, sees_goal, StopsAfter}
use Rattle.pruning.proofs.Firsts.{HoldsAfter, first_on_run-finds}
use Rattle.pruning.proofs.Running.{moved_to, run_walked, steps_moved}
use Rattle.pruning.proofs.Stopping.{first_stop_is_first, marks_are_decided, only_one_first_stop}
use Rattle.pruning.proofs.Swapping.{run_begins}
use Rattle.one_state.specs.Instances.{at_first, at_first_plus, is_plus_stop, is_the, lies_in}
use Rattle.one_state.specs.Laws.{BoundedIsInTime, FirstIsInTime, FurtherIsInTime, PlusIsInTime}
use Rattle.one_state.specs.Rows.{LeftOutIsRefused, WrongCellIsRefused, cell, end, past_the_pillar}

pub is_the-itself : (k : ℕ) (o : Option ℕ) → o ≡ Some k → is_the k o ≡ true
is_the-itself k o e = rw e (same k)
  where
    same : (k : ℕ) → nat_eq k k ≡ true
    same k = grind (arith, nat_tests)

pub is_the-tells : (k : ℕ) (o : Option ℕ) → is_the k o ≡ true → o ≡ Some k
is_the-tells k None h = absurd (cc)
is_the-tells k (Some n) h = ap (λ j. Some j) (sym (same k n h))
  where
    same : (k n : ℕ) → nat_eq k n ≡ true → k ≡ n
    same k n h = grind (arith, nat_tests)

-- the first stop is one of the stops
pub first_there : (g : GridData) (goal : Cell) (u : Reached) (d : Dir) (k : ℕ)
    → IsLeast (StopsAfter g goal u.state.cell d) 1 k → at_first g goal u d k ≡ true
first_there g goal u d k least = is_the-itself k (first_stop g goal u.state.cell d)
    (sym (only_one_first_stop g goal u.state.cell d (Some k) least))

pub first_is_in_time : FirstIsInTime
first_is_in_time g goal u d k a least = record {
  moves = k;
  some = least.in_range;
  up_to = omega arith;
  stops_there = first_there g goal u d k least;
}

pub further_is_in_time : FurtherIsInTime
further_is_in_time extra g goal u d k a least = record {
  moves = k;
  some = least.in_range;
  up_to = omega arith;
  stops_there = or_left (at_first g goal u d k) (extra u d k) (first_there g goal u d k least);
}

pub bounded_is_in_time : BoundedIsInTime
bounded_is_in_time most some g goal u d k a least = elim (order most k) [
  | inl before ↦ record {
    moves = most;
    some = some;
    up_to = before;
    stops_there = or_left (nat_eq most most) _ (same most);
  }
  | inr within ↦ record {
    moves = k;
    some = least.in_range;
    up_to = omega arith;
    stops_there = or_right (nat_eq k most) _
        (rw (at_most k most within, first_there g goal u d k least) refl);
  }
]
  where
    order : (m n : ℕ) → (m ≤ n) ⊎ (n < m)
    order m n = grind arith

    same : (k : ℕ) → nat_eq k k ≡ true
    same k = grind (arith, nat_tests)

    at_most : (m n : ℕ) → m < n → nat_le m n ≡ true
    at_most m n h = grind (arith, nat_tests)

-- where the run leads to the goal, the goal lies there
lies_there : (g : GridData) (d : Dir) (k : ℕ) (v c : Cell) → 1 ≤ k → run_end g d k v ≡ Some c
    → lies_in c d v ≡ true
lies_there g d zero v c some r = absurd (omega arith)
lies_there g d (suc k) v c some r =
    let run = run_walked g d (suc k) v c (run_begins g d k v c r) r in
    let there : cell_after d (steps_between v c) v ≡ c =
    ap (λ n. cell_after d n v) (steps_moved d (suc k) v c run.moved)
    ∙ sym (moved_to d (suc k) v c run.moved) in
    subst (λ (x : Cell). is_same x c ≡ true) (sym there) (is_same-itself c)

-- each stop is one of published JPS+
plus_stops : (g : GridData) (goal : Cell) (d : Dir) (v : Cell) → IsStop g goal d v
    → is_plus_stop g goal d v ≡ true
plus_stops g goal d v (at_goal e) =
    let k : is_same v goal ≡ true = rw e (is_same-itself goal) in rw k refl
plus_stops g goal d v (marked m) =
    rw (or_right (is_same v goal) (is_marked g v d) ((marks_are_decided g v d).complete m)) refl
plus_stops g goal d v (sees_goal h s r) = or_right (is_same v goal || is_marked g v d) _ (rw h (by_side s
    (subst (λ (c : Cell). lies_in c (turn s d) v ≡ true) r.holds
    (lies_there g (turn s d) r.moves v r.cell r.some r.reached))))
  where
    by_side : (s : Side) → lies_in goal (turn s d) v ≡ true
        → (lies_in goal (turn Right d) v || lies_in goal (turn Left d) v) ≡ true
    by_side Right k = or_left (lies_in goal (turn Right d) v) (lies_in goal (turn Left d) v) k
    by_side Left k = or_right (lies_in goal (turn Right d) v) (lies_in goal (turn Left d) v) k

pub plus_is_in_time : PlusIsInTime
plus_is_in_time g goal u d k a least =
    by_first (first_on_run g d test u.state.cell) refl (first_on_run-finds g d test u.state.cell)
  where
    test : Cell → Bool
    test v = is_plus_stop g goal d v

    holds : HoldsAfter g d test u.state.cell k
    holds = record {
      cell = least.holds.cell;
      reached = least.holds.reached;
      holds = plus_stops g goal d least.holds.cell least.holds.stops;
    }

    order : (m n : ℕ) → (m ≤ n) ⊎ (n < m)
    order m n = grind arith

    by_first : (o : Option ℕ) → first_on_run g d test u.state.cell ≡ o
        → FindsLeast (HoldsAfter g d test u.state.cell) 1 o → GoesOn (at_first_plus g goal) u d k
    by_first None e none = absurd (none (suc k) k least.in_range (omega arith) holds)
    by_first (Some j) e first = elim (order j k) [
      | inl within ↦ record {
        moves = j;
        some = first.in_range;
        up_to = within;
        stops_there = is_the-itself j (first_on_run g d test u.state.cell) e;
      }
      | inr beyond ↦ absurd (first.least k least.in_range beyond holds)
    ]

-- the definitions refuse what is none
pub wrong_cell_is_refused : WrongCellIsRefused
wrong_cell_is_refused c = let more = c.falls (cell 2 1) (cell 2 2) refl in absurd (cc)

pub left_out_is_refused : LeftOutIsRefused
left_out_is_refused w =
    let on = w S 2 refl (first_stop_is_first (pillar Never) end (cell 2 0) S) in
    let none = (and_both (at_first (pillar Never) end past_the_pillar S on.moves) (not (is_dir S S))
    on.stops_there).1 in
    absurd (cc)
