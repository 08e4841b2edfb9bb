-- How long runs are, from cell to cell.
use Rattle.std.proofs.Common.{◌≡◌, ℕ, zero, suc, ◌+◌, ◌≤◌, arith, true, false, refl, sym, ◌∙◌}
use Rattle.std.specs.Prelude.{Option, Some, None, is_some, nat_le}
use Rattle.std.proofs.lemmas.Bool.Decides.{nat_tests}
use Rattle.grid_moves.specs.declared.Cell.{Cell}
use Rattle.grid_moves.specs.declared.Dir.{Dir}
use Rattle.grid_moves.specs.Grid.{GridData}
use Rattle.grid_moves.specs.Move.{legal_ahead}
use Rattle.pruning.specs.Marked.{run_end}
use Rattle.pruning.specs.First.{run_length}
use Rattle.pruning.proofs.Runs.{run_short, run_length_is_exact}

-- two lengths that the same runs have are one
same_length : (m n : ℕ) → ((k : ℕ) → nat_le k m ≡ nat_le k n) → m ≡ n
same_length m n h =
    let there = h m in
    let back = h n in
    grind (arith, nat_tests)

-- a run is one move longer than that from its next cell, and none where no move is legal
pub run_length-next : (g : GridData) (x v : Cell) (d : Dir) → legal_ahead g x d ≡ Some v
    → run_length g x d ≡ suc (run_length g v d)
run_length-next g x v d e = same_length (run_length g x d) (suc (run_length g v d)) by_moves
  where
    first : (m : ℕ) → nat_le 0 m ≡ true
    first m = grind (arith, nat_tests)

    later : (k m : ℕ) → nat_le k m ≡ nat_le (suc k) (suc m)
    later k m = grind (arith, nat_tests)

    by_moves : (k : ℕ) → nat_le k (run_length g x d) ≡ nat_le k (suc (run_length g v d))
    by_moves zero = first (run_length g x d) ∙ sym (first (suc (run_length g v d)))
    by_moves (suc k) =
        sym (run_length_is_exact g x d (suc k)) ∙ rw e (run_length_is_exact g v d k)
        ∙ later k (run_length g v d)

pub run_length-none : (g : GridData) (x : Cell) (d : Dir) → legal_ahead g x d ≡ None
    → run_length g x d ≡ 0
run_length-none g x d e = same_length (run_length g x d) 0 by_moves
  where
    first : (m : ℕ) → nat_le 0 m ≡ true
    first m = grind (arith, nat_tests)

    never : (k : ℕ) → false ≡ nat_le (suc k) 0
    never k = grind (arith, nat_tests)

    by_moves : (k : ℕ) → nat_le k (run_length g x d) ≡ nat_le k 0
    by_moves zero = first (run_length g x d) ∙ sym (first 0)
    by_moves (suc k) = sym (run_length_is_exact g x d (suc k)) ∙ rw e (never k)

-- no run is longer than the sides together
pub run_length-few : (g : GridData) (x : Cell) (d : Dir) → run_length g x d ≤ g.width + g.height
run_length-few g x d = by_end (run_end g d (run_length g x d) x) refl
  where
    all : (n : ℕ) → nat_le n n ≡ true
    all n = grind (arith, nat_tests)

    by_end : (o : Option Cell) → run_end g d (run_length g x d) x ≡ o
        → run_length g x d ≤ g.width + g.height
    by_end None e = absurd (let counts = run_length_is_exact g x d (run_length g x d) in
        let some : is_some (run_end g d (run_length g x d) x) ≡ true =
        counts ∙ all (run_length g x d) in let none = rw e at some in cc)
    by_end (Some c) e = run_short g d (run_length g x d) x c e
