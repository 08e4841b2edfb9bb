use Rattle.std.proofs.Common.{◌≡◌, ℕ, ◌<◌, false}
use Rattle.std.specs.Prelude.{slice_index_or}
use Rattle.grid_moves.specs.Grid.{ground_of, is_ground}
use Rattle.grid_moves.proofs.grid.fill_row.Given as goal

-- the places so far say whether their byte is of the ground
abbrev pub invariant-loop-x : goal.invariant-loop-x
invariant-loop-x l = (k : ℕ) → k < l.x
    → slice_index_or l.row k false ≡ is_ground l.kind (ground_of (slice_index_or l.bytes k 0))
