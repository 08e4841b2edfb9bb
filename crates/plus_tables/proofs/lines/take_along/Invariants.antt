use Rattle.std.proofs.Common.{◌≡◌, ℕ, ◌+◌, ◌*◌, ◌<◌}
use Rattle.grid_moves.specs.declared.Dir.TheVariants.{E, W}
use Rattle.grid_moves.specs.Move.{dir_number}
use Rattle.plus_tables.specs.Rows.{number}
use Rattle.plus_tables.proofs.lines.take_along.Given as goal

-- those of the columns so far are read
abbrev pub invariant-loop-x : goal.invariant-loop-x
invariant-loop-x l = record {
  east : (k : ℕ) → k < l.x → number l.east (k + 1) ≡ number l.row (k * 8 + dir_number E);
  west : (k : ℕ) → k < l.x → number l.west (k + 1) ≡ number l.row (k * 8 + dir_number W);
}
