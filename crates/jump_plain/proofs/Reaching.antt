-- How far scans reach, from cell to cell.
use Rattle.std.proofs.lemmas.Bool.Decides.{nat_tests}
use Rattle.std.proofs.lemmas.Grind.{common_steps}
use Rattle.std.proofs.Common.{◌≡◌, ℕ, suc, ◌+◌, arith, Bool, true, false}
use Rattle.std.specs.Prelude.{Option, Some, None, option_map, if◌then◌else◌}
use Rattle.grid_moves.specs.declared.Cell.{Cell}
use Rattle.grid_moves.specs.declared.Dir.{Dir}
use Rattle.grid_moves.specs.Grid.{GridData}
use Rattle.grid_moves.specs.Move.{legal_ahead}
use Rattle.pruning.specs.Marked.{is_forced}
use Rattle.pruning.specs.First.{first_on_run, run_length}
use Rattle.pruning.proofs.Lengths.{run_length-next, run_length-none}
use Rattle.pruning.proofs.Firsts.{first_on_run-next, first_on_run-none}
use Rattle.jump_plain.specs.Reach.{reach_to, reach_of, reach_at, further}

-- a reach is one move further than that at the next cell, and none where no move is legal
pub reach-next : (g : GridData) (x v : Cell) (d : Dir) → legal_ahead g x d ≡ Some v
    → reach_of g x d ≡ further 1 (reach_at g v d)
reach-next g x v d e = rw (
  first_on_run-next g d (λ u. is_forced g u d) x v e,
  run_length-next g x v d e,
) (by_first (is_forced g v d) (first_on_run g d (λ u. is_forced g u d) v) (run_length g v d))
  where
    one : (n : ℕ) → suc n ≡ 1 + n
    one n = omega arith

    by_first : (b : Bool) (o : Option ℕ) (n : ℕ)
        → reach_to (if b then Some 1 else option_map (λ k. suc k) o) (suc n)
        ≡ further 1 (if b then record { moves = 0; marked = true } else reach_to o n)
    by_first b o n = grind (arith, nat_tests, common_steps, one)

pub reach-none : (g : GridData) (x : Cell) (d : Dir) → legal_ahead g x d ≡ None
    → reach_of g x d ≡ record { moves = 0; marked = false }
reach-none g x d e = grind (arith, nat_tests, common_steps, first_on_run-none, run_length-none)
