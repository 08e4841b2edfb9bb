-- What entries say of marks and runs.
use Rattle.std.proofs.Common.{◌≡◌, ℕ, zero, suc, ◌<◌, ◌≤◌, arith, true, false, refl, ap, sym, ◌∙◌, subst}
use Rattle.std.specs.Prelude.{ℤ, pos, neg_ℤ, Option, Some, None, is_some, nat_le}
use Rattle.std.proofs.lemmas.Bool.Decides.{nat_tests}
use Rattle.grid_moves.specs.declared.Cell.{Cell}
use Rattle.grid_moves.specs.declared.Dir.{Dir}
use Rattle.grid_moves.specs.Least.{FindsLeast}
use Rattle.grid_moves.specs.Grid.{GridData, is_free}
use Rattle.grid_moves.specs.Move.{legal_ahead}
use Rattle.pruning.specs.Allowed.{can_move}
use Rattle.pruning.specs.Marked.{run_end}
use Rattle.pruning.specs.First.{first_mark, run_length}
use Rattle.pruning.specs.Stop.{MarkedAfter}
use Rattle.pruning.proofs.Runs.{run_length_is_exact}
use Rattle.pruning.proofs.Stopping.{first_mark_is_first}
use Rattle.plus_tables.specs.Entry.{mark_or_run, table_entry}
use Rattle.plus_tables.specs.Reading.{mark_of, is_clear, is_move}
use Rattle.plus_tables.proofs.Following.{table_entry-free}
use Rattle.pruning.proofs.Lengths.{run_length-next, run_length-none}

-- what a run's first mark and its length say together, whatever the entry looks like
pub data Tells (g : GridData) (x : Cell) (d : Dir) : ℤ → Type 0 where
  marked : (k : ℕ) → MarkedAfter g x d (suc k)
      → ((j : ℕ) → 1 ≤ j → j < suc k → MarkedAfter g x d j → ⊥) → Tells g x d (pos (suc k))
  unmarked : (n : ℕ) → run_length g x d ≡ n → ((j : ℕ) → 1 ≤ j → MarkedAfter g x d j → ⊥)
      → Tells g x d (neg_ℤ (pos n))

pub entry_tells : (g : GridData) (x : Cell) (d : Dir) → is_free g x ≡ true → Tells g x d (table_entry g x d)
entry_tells g x d f = subst (λ (z : ℤ). Tells g x d z) (sym (table_entry-free g x d f))
    (by_mark (first_mark g x d) refl (first_mark_is_first g x d))
  where
    by_mark : (o : Option ℕ) → first_mark g x d ≡ o → FindsLeast (MarkedAfter g x d) 1 o
        → Tells g x d (mark_or_run o (run_length g x d))
    by_mark None e h = unmarked (run_length g x d) refl (λ j i m. h (suc j) j i (omega arith) m)
    by_mark (Some zero) e h = absurd (let some = h.in_range in omega arith)
    by_mark (Some (suc k)) e h = marked k h.holds (λ j i l m. h.least j i l m)

-- the run reaches as far as its length
pub run_reaches : (g : GridData) (x : Cell) (d : Dir) (k : ℕ) → k ≤ run_length g x d
    → (v : Cell) × (run_end g d k x ≡ Some v)
run_reaches g x d k h = by_end (run_end g d k x) refl
  where
    few : nat_le k (run_length g x d) ≡ true
    few = grind (arith, nat_tests)

    by_end : (o : Option Cell) → run_end g d k x ≡ o → (v : Cell) × (run_end g d k x ≡ Some v)
    by_end None e = absurd (let some : is_some (run_end g d k x) ≡ true = run_length_is_exact g x d k ∙ few in
        let none = rw e at some in cc)
    by_end (Some v) e = (v, e)

-- and no further
pub run_within : (g : GridData) (x v : Cell) (d : Dir) (k : ℕ) → run_end g d k x ≡ Some v
    → k ≤ run_length g x d
run_within g x v d k e =
    let some : nat_le k (run_length g x d) ≡ true =
    sym (run_length_is_exact g x d k) ∙ ap (λ (o : Option Cell). is_some o) e in
    grind (arith, nat_tests)

-- a clear run is so long
pub clear_run : (g : GridData) (x : Cell) (d : Dir) (entry : ℤ) → Tells g x d entry → (k : ℕ) → 1 ≤ k
    → is_clear entry k ≡ true → (v : Cell) × (run_end g d k x ≡ Some v)
clear_run g x d _ (marked n m first) k h c =
    run_reaches g x d k (short (run_within g x m.cell d (suc n) m.reached))
  where
    short : suc n ≤ run_length g x d → k ≤ run_length g x d
    short few = grind (arith, nat_tests)
clear_run g x d _ (unmarked zero is none) k h c = absurd (grind (arith, nat_tests))
clear_run g x d _ (unmarked (suc n) is none) k h c = run_reaches g x d k (grind (arith, nat_tests))

-- and has no mark
pub clear_unmarked : (g : GridData) (x : Cell) (d : Dir) (entry : ℤ) → Tells g x d entry → (k : ℕ) → 1 ≤ k
    → is_clear entry k ≡ true → MarkedAfter g x d k → ⊥
clear_unmarked g x d _ (marked n m first) k h c l = first k h (grind (arith, nat_tests)) l
clear_unmarked g x d _ (unmarked zero is none) k h c l = none k h l
clear_unmarked g x d _ (unmarked (suc n) is none) k h c l = none k h l

-- what is clear so far is clear before
pub clear_before : (entry : ℤ) (j k : ℕ) → j ≤ k → is_clear entry k ≡ true → is_clear entry j ≡ true
clear_before entry j k h i = grind (arith, nat_tests)

-- before the mark the run is clear
pub clear_to_mark : (entry : ℤ) (n k : ℕ) → mark_of entry ≡ Some n → k < n → is_clear entry k ≡ true
clear_to_mark entry n k h i = grind (arith, nat_tests)

-- the mark is the first
pub mark_first : (g : GridData) (x : Cell) (d : Dir) (entry : ℤ) → Tells g x d entry → (n : ℕ)
    → mark_of entry ≡ Some n → (1 ≤ n) × MarkedAfter g x d n
mark_first g x d entry h n i = grind (arith, nat_tests)

-- where there is no mark, the run is clear
pub clear_all : (g : GridData) (x v : Cell) (d : Dir) (entry : ℤ) → Tells g x d entry → (k : ℕ) → 1 ≤ k
    → mark_of entry ≡ None → run_end g d k x ≡ Some v → is_clear entry k ≡ true
clear_all g x v d entry h k i j l = grind (arith, nat_tests, run_within)

-- a run with no mark so far is clear
pub clear_where : (g : GridData) (x v : Cell) (d : Dir) (entry : ℤ) → Tells g x d entry → (k : ℕ) → 1 ≤ k
    → run_end g d k x ≡ Some v → ((j : ℕ) → 1 ≤ j → MarkedAfter g x d j → ⊥) → is_clear entry k ≡ true
clear_where g x v d _ (marked n m first) k h r never = absurd (never (suc n) (omega arith) m)
clear_where g x v d _ (unmarked zero is none) k h r never =
    absurd (let few = run_within g x v d k r in omega arith)
clear_where g x v d _ (unmarked (suc n) is none) k h r never =
    let few = run_within g x v d k r in grind (arith, nat_tests)

-- an entry is 0 exactly where no move is legal
pub is_move-is : (g : GridData) (x : Cell) (d : Dir) → is_free g x ≡ true
    → is_move (table_entry g x d) ≡ can_move g x d
is_move-is g x d f = by_entry (table_entry g x d) (entry_tells g x d f)
  where
    from_run : run_length g x d ≡ 0 → (o : Option Cell) → legal_ahead g x d ≡ o → false ≡ is_some o
    from_run h None e = refl
    from_run h (Some v) e = absurd (let next = run_length-next g x v d e in omega arith)

    some_run : (n : ℕ) → suc n ≤ run_length g x d → (o : Option Cell) → legal_ahead g x d ≡ o
        → true ≡ is_some o
    some_run n h None e = absurd (let none = run_length-none g x d e in omega arith)
    some_run n h (Some v) e = refl

    by_entry : (z : ℤ) → Tells g x d z → is_move z ≡ can_move g x d
    by_entry _ (marked k m first) = grind (arith, nat_tests)
    by_entry _ (unmarked zero is none) = from_run is (legal_ahead g x d) refl
    by_entry _ (unmarked (suc n) is none) = some_run n (omega arith) (legal_ahead g x d) refl
