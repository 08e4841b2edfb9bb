use Rattle.std.proofs.Common.{ℕ, ◌<◌}
use Rattle.grid_moves.specs.declared.Dir.TheVariants.{W}
use Rattle.plus_tables.specs.Rows as spec
use Rattle.plus_tables.proofs.rows.west.Given as goal

-- the columns so far are entered
abbrev pub invariant-loop-x : goal.invariant-loop-x
invariant-loop-x l = (k : ℕ) → k < l.x → spec.IsEntryAlong l.here l.forced W l.out k
