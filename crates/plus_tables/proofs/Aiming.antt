-- Where a direction does not lead to where the goal lies, the entry alone tells the stop.
use Rattle.std.proofs.Common.{◌≡◌, arith, true, false}
use Rattle.std.specs.Prelude.{ℤ}
use Rattle.std.proofs.lemmas.Bool.Decides.{nat_tests}
use Rattle.grid_moves.specs.declared.Cell.{Cell}
use Rattle.grid_moves.specs.declared.Dir.{Dir}
use Rattle.jump_plain.specs.Reach.{moves_to}
use Rattle.pruning.specs.Turns.{is_diagonal}
use Rattle.plus_tables.specs.Reading.{is_aimed, mark_of, near_to, stop_read}

-- so no moves in it lead to the goal, or to its row or column
unaimed_straight : (u goal : Cell) (d : Dir) → is_aimed u d goal ≡ false → is_diagonal d ≡ false
    → moves_to d u goal ≡ 0
unaimed_straight u goal d h k = grind (arith, nat_tests)

unaimed_diagonal : (u goal : Cell) (d : Dir) → is_aimed u d goal ≡ false → is_diagonal d ≡ true
    → near_to d u goal ≡ 0
unaimed_diagonal u goal d h k = grind (arith, nat_tests)

pub unaimed : (entry : Cell → Dir → ℤ) (u goal : Cell) (d : Dir) → is_aimed u d goal ≡ false
    → stop_read entry u d goal ≡ mark_of (entry u d)
unaimed entry u goal d h = grind (arith, nat_tests, unaimed_straight, unaimed_diagonal)
