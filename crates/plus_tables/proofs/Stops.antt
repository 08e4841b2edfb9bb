-- The stop of a jump, by its entry and by where it comes to the goal or sees it.
use Rattle.std.proofs.Common.{◌≡◌, ℕ, ◌≤◌, arith, Bool, true, false, ◌&&◌, refl, ap, sym, ◌∙◌}
use Rattle.std.specs.Prelude.{ℤ, Option, Some, None, nat_lt, if◌then◌else◌}
use Rattle.std.proofs.lemmas.Bool.Decides.{nat_tests}
use Rattle.grid_moves.specs.declared.Cell.{Cell}
use Rattle.grid_moves.specs.declared.Dir.{Dir}
use Rattle.grid_moves.specs.Grid.{GridData}
use Rattle.grid_moves.proofs.Legal.{and_both}
use Rattle.pruning.specs.Stop.{StopsAfter, IsFirstStop, MarkedAfter, marked}
use Rattle.plus_tables.specs.Reading.{mark_of, is_clear, stop_by}
use Rattle.plus_tables.proofs.Clear.{Tells, clear_before, clear_to_mark, clear_all, mark_first}

-- after so many moves, and where this test holds, the jump is at the goal or sees it; and there alone
pub record IsGoalStop (g : GridData) (goal x : Cell) (d : Dir) (entry : ℤ) (near : ℕ) (sees : Bool)
    : Type 0 where
  pub sound : 1 ≤ near → is_clear entry near ≡ true → sees ≡ true → StopsAfter g goal x d near
  pub complete : (k : ℕ) → 1 ≤ k → is_clear entry k ≡ true → StopsAfter g goal x d k
      → (k ≡ near) × (sees ≡ true)

pub stop_by-first : (g : GridData) (goal x : Cell) (d : Dir) (entry : ℤ) → Tells g x d entry → (near : ℕ)
    → (sees : Bool) → IsGoalStop g goal x d entry near sees
    → IsFirstStop g goal x d (stop_by entry near sees)
stop_by-first g goal x d entry tells near sees goals =
    by_test (nat_lt 0 near && is_clear entry near && sees) refl
  where
    -- no other stop is clear
    none_else : (nat_lt 0 near && is_clear entry near && sees) ≡ false → (k : ℕ) → 1 ≤ k
        → is_clear entry k ≡ true → StopsAfter g goal x d k → ⊥
    none_else h k i c s =
        let there = goals.complete k i c s in
        let some : nat_lt 0 near ≡ true =
        let same = there.0 in grind (arith, nat_tests) in
        let clear : is_clear entry near ≡ true = ap (λ (n : ℕ). is_clear entry n) (sym there.0) ∙ c in
        let holds : true ≡ false = sym (rw (some, clear, there.1) refl) ∙ h in
        absurd (cc)

    stops_marked : (k : ℕ) → MarkedAfter g x d k → StopsAfter g goal x d k
    stops_marked k m = record { cell = m.cell; reached = m.reached; stops = marked m.marks }

    by_mark : (nat_lt 0 near && is_clear entry near && sees) ≡ false → (o : Option ℕ) → mark_of entry ≡ o
        → IsFirstStop g goal x d o
    by_mark h None e = λ n k i l s. none_else h k i (clear_all g x s.cell d entry tells k i e s.reached) s
    by_mark h (Some n) e =
        let first = mark_first g x d entry tells n e in
        record {
          in_range = first.0;
          holds = stops_marked n first.1;
          least = λ k i l s. none_else h k i (clear_to_mark entry n k e l) s;
        }

    at_goal_first : (nat_lt 0 near && is_clear entry near && sees) ≡ true
        → IsFirstStop g goal x d (Some near)
    at_goal_first h =
        let outer = and_both (nat_lt 0 near && is_clear entry near) sees h in
        let inner = and_both (nat_lt 0 near) (is_clear entry near) outer.0 in
        let some : 1 ≤ near = at_least inner.0 in
        record {
          in_range = some;
          holds = goals.sound some inner.1 outer.1;
          least = λ k i l s.
              let there = goals.complete k i (clear_before entry k near (omega arith) inner.1) s in
              let same = there.0 in omega arith;
        }
      where
        at_least : nat_lt 0 near ≡ true → 1 ≤ near
        at_least t = grind (arith, nat_tests)

    by_test : (b : Bool) → (nat_lt 0 near && is_clear entry near && sees) ≡ b
        → IsFirstStop g goal x d (if b then Some near else mark_of entry)
    by_test true h = at_goal_first h
    by_test false h = by_mark h (mark_of entry) refl
