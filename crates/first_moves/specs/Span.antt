-- Two runs between which that of a cell number stands. No public clause cites this module.
use Rattle.std.specs.Prelude.{ℕ, ◌<◌, ◌≤◌, List, length, slice_index_or}
use Rattle.first_moves.specs.declared.row.Run.{Run}

-- run `low` begins at the number or before, unless it is the first one, and run `high` after it, if there is
-- one
pub record IsSpan (runs : List Run) (number low high : ℕ) : Type 0 where
  pub apart : low < high
  pub within : high ≤ length runs
  pub begun : (d : Run) → 0 < low → (slice_index_or runs low d).start ≤ number
  pub ends : (d : Run) → high < length runs → number < (slice_index_or runs high d).start
