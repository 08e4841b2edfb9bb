use Rattle.std.proofs.Common.{ℕ, ◌-◌, ◌<◌, ◌≤◌, length}
use Rattle.grid_moves.specs.declared.Dir.TheVariants.{E}
use Rattle.plus_tables.specs.Rows as spec
use Rattle.plus_tables.proofs.rows.east.Given as goal

-- the columns from this one on are entered
abbrev pub invariant-loop-x : goal.invariant-loop-x
invariant-loop-x l = (k : ℕ) → l.x ≤ k → k < length l.out - 2 → spec.IsEntryAlong l.here l.forced E l.out k
