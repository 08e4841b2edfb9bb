-- The first cell of a run at which a test holds.
use Rattle.std.proofs.Common.{◌≡◌, ℕ, zero, suc, ◌+◌, ◌≤◌, arith, Bool, true, false, refl}
use Rattle.std.specs.Prelude.{Option, Some, None, MatchOption, option_and_then, option_map, is_some}
use Rattle.std.specs.Prelude.{if◌then◌else◌}
use Rattle.grid_moves.specs.declared.Cell.{Cell}
use Rattle.grid_moves.specs.declared.Dir.{Dir}
use Rattle.grid_moves.specs.Grid.{GridData}
use Rattle.grid_moves.specs.Least.{IsLeast, FindsLeast}
use Rattle.grid_moves.specs.Move.{legal_ahead}
use Rattle.pruning.specs.Marked.{run_end, HoldsOnRun}
use Rattle.pruning.specs.First.{first_within, first_on_run, holds_on_run}
use Rattle.pruning.proofs.Bridging.{one_of}
use Rattle.pruning.proofs.Runs.{run_short}

-- the least number is found once
pub FindsLeast-once : (P : ℕ → Type 0) (low : ℕ) (a b : Option ℕ) → FindsLeast P low a → FindsLeast P low b
    → a ≡ b
FindsLeast-once P low None None f h = refl
FindsLeast-once P low None (Some n) f h = absurd (f (suc n) n h.in_range (omega arith) h.holds)
FindsLeast-once P low (Some m) None f h = absurd (h (suc m) m f.in_range (omega arith) f.holds)
FindsLeast-once P low (Some m) (Some n) f h = grind arith

-- and for any property that holds of the same numbers
pub FindsLeast-same : (P Q : ℕ → Type 0) (low : ℕ) → ((k : ℕ) → P k → Q k) → ((k : ℕ) → Q k → P k)
    → (a : Option ℕ) → FindsLeast P low a → FindsLeast Q low a
FindsLeast-same P Q low there back None f = λ n k i j q. f n k i j (back k q)
FindsLeast-same P Q low there back (Some n) f = grind arith

module _ (g : GridData) (d : Dir) (test : Cell → Bool) where
  -- the run from x has k moves, and the test holds after them
  pub record HoldsAfter (x : Cell) (k : ℕ) : Type 0 where
    pub cell : Cell
    pub reached : run_end g d k x ≡ Some cell
    pub holds : test cell ≡ true

  -- the answer is right where no more than n cells are asked for
  abbrev IsFound : ℕ → Cell → Option ℕ → Type 0
  IsFound n x answer =
      MatchOption answer ((k : ℕ) → 1 ≤ k → k ≤ n → HoldsAfter x k → ⊥) (IsLeast (HoldsAfter x) 1)

  -- a run that does not begin
  nowhere : (x : Cell) → legal_ahead g x d ≡ None → (k : ℕ) → 1 ≤ k → HoldsAfter x k → ⊥
  nowhere x e zero i h = absurd (omega arith)
  nowhere x e (suc k) i h = let none = rw e at h.reached in absurd (cc)

  -- where the test fails at the first cell, it holds after one move less from there
  later : (x v : Cell) → legal_ahead g x d ≡ Some v → test v ≡ false → (k : ℕ) → 1 ≤ k → HoldsAfter x k
      → (j : ℕ) × (k ≡ suc j) × (1 ≤ j) × HoldsAfter v j
  later x v e f zero i h = absurd (omega arith)
  later x v e f (suc zero) i h = grind (arith, one_of)
  later x v e f (suc (suc k)) i h =
      (suc k, refl, omega arith, record { cell = h.cell; reached = rw e at h.reached; holds = h.holds })

  by_first : (n : ℕ) (x v : Cell) → legal_ahead g x d ≡ Some v → (b : Bool) → test v ≡ b → (a : Option ℕ)
      → IsFound n v a → IsFound (suc n) x (if b then Some 1 else option_map (λ k. suc k) a)
  by_first n x v e true t a f = record {
    in_range = omega arith;
    holds = record { cell = v; reached = rw e refl; holds = t };
    least = λ k i j h. absurd (omega arith);
  }
  by_first n x v e false t None f =
      λ k i j h. let r = later x v e t k i h in f r.0 r.2 (let same = r.1 in omega arith) r.3
  by_first n x v e false t (Some m) f = record {
    in_range = omega arith;
    holds = record { cell = f.holds.cell; reached = rw e f.holds.reached; holds = f.holds.holds };
    least =
        λ k i j h. let r = later x v e t k i h in f.least r.0 r.2 (let same = r.1 in omega arith) r.3;
  }

  found : (n : ℕ) (x : Cell) → IsFound n x (first_within n g d test x)
  found zero x = λ k i j h. absurd (omega arith)
  found (suc n) x = by_cell (legal_ahead g x d) refl (λ v. found n v)
    where
      by_cell : (o : Option Cell) → legal_ahead g x d ≡ o
          → ((v : Cell) → IsFound n v (first_within n g d test v))
          → IsFound (suc n) x (option_and_then
          (λ v. if test v then Some 1 else option_map (λ k. suc k) (first_within n g d test v)) o)
      by_cell None e next = λ k i j h. nowhere x e k i h
      by_cell (Some v) e next = by_first n x v e (test v) refl (first_within n g d test v) (next v)

  pub first_on_run-finds : (x : Cell) → FindsLeast (HoldsAfter x) 1 (first_on_run g d test x)
  first_on_run-finds x = by_answer (first_on_run g d test x) (found (g.width + g.height) x)
    where
      by_answer : (a : Option ℕ) → IsFound (g.width + g.height) x a → FindsLeast (HoldsAfter x) 1 a
      by_answer None f = λ n k i j h. f k i (run_short g d k x h.cell h.reached) h
      by_answer (Some m) f = f

  -- the test holds somewhere on the run exactly where a first such cell is found
  pub on_run-sound : (x : Cell) → holds_on_run g d test x ≡ true → HoldsOnRun g d x (λ v. test v ≡ true)
  on_run-sound x h = by_answer (first_on_run g d test x) (first_on_run-finds x) h
    where
      by_answer : (a : Option ℕ) → FindsLeast (HoldsAfter x) 1 a → is_some a ≡ true
          → HoldsOnRun g d x (λ v. test v ≡ true)
      by_answer None f h = absurd (cc)
      by_answer (Some m) f h = record {
        moves = m;
        some = f.in_range;
        cell = f.holds.cell;
        reached = f.holds.reached;
        holds = f.holds.holds;
      }

  pub on_run-complete : (x : Cell) → HoldsOnRun g d x (λ v. test v ≡ true) → holds_on_run g d test x ≡ true
  on_run-complete x r = by_answer (first_on_run g d test x) (first_on_run-finds x)
    where
      by_answer : (a : Option ℕ) → FindsLeast (HoldsAfter x) 1 a → is_some a ≡ true
      by_answer None f = absurd (f (suc r.moves) r.moves r.some (omega arith)
          (record { cell = r.cell; reached = r.reached; holds = r.holds }))
      by_answer (Some m) f = refl

  -- from cell to cell: where no move is legal none is found
  pub first_on_run-none : (x : Cell) → legal_ahead g x d ≡ None → first_on_run g d test x ≡ None
  first_on_run-none x e = grind (arith, FindsLeast-once, first_on_run-finds, nowhere)

  -- else the next cell, or one move more than from there
  pub first_on_run-next : (x v : Cell) → legal_ahead g x d ≡ Some v
      → first_on_run g d test x
      ≡ (if test v then Some 1 else option_map (λ k. suc k) (first_on_run g d test v))
  first_on_run-next x v e = FindsLeast-once (HoldsAfter x) 1 (first_on_run g d test x) _
      (first_on_run-finds x)
      (at_last x _ (λ n. by_first n x v e (test v) refl (first_on_run g d test v)
      (at_first n v (first_on_run g d test v) (first_on_run-finds v))))
    where
      at_first : (n : ℕ) (v : Cell) (a : Option ℕ) → FindsLeast (HoldsAfter v) 1 a → IsFound n v a
      at_first n v None f = λ k i j h. f (suc k) k i (omega arith) h
      at_first n v (Some m) f = f

      at_last : (x : Cell) (a : Option ℕ) → ((n : ℕ) → IsFound (suc n) x a) → FindsLeast (HoldsAfter x) 1 a
      at_last x None f = λ n k i j h. f k k i (omega arith) h
      at_last x (Some m) f = f 0
