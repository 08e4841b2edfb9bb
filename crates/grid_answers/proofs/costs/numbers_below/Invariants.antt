use Rattle.std.proofs.Common.{◌≡◌}
use Rattle.std.specs.List.{range_with_len}
use Rattle.grid_answers.proofs.costs.numbers_below.Given as goal

-- the numbers below this one
abbrev pub invariant-loop-y : goal.invariant-loop-y
invariant-loop-y l = l.rows.items ≡ range_with_len 0 l.y
