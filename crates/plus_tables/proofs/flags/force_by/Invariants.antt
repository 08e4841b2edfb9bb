use Rattle.std.proofs.Common.{◌≡◌, ℕ, ◌+◌, ◌<◌}
use Rattle.grid_moves.specs.Ruled.{rule_of_number}
use Rattle.pruning.specs.Ring.{forced_on}
use Rattle.plus_tables.specs.Rows as spec
use Rattle.plus_tables.proofs.flags.force_by.Given as goal

-- the columns so far have their flags
abbrev pub invariant-loop-x : goal.invariant-loop-x
invariant-loop-x g l = (k : ℕ) → k < l.x → spec.flag l.forced (k + 1)
    ≡ forced_on (rule_of_number g.row.RULE) (spec.ring_of l.above l.here l.below k) l.d
