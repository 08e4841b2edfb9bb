use Rattle.std.proofs.Common.{◌≡◌, ℕ, ◌<◌, false}
use Rattle.std.specs.Prelude.{slice_index_or}
use Rattle.grid_moves.specs.Grid.{is_free}
use Rattle.grid_moves.proofs.terrain.Terrain.read_row.Given as goal

-- the columns so far are read
abbrev pub invariant-loop-x : goal.invariant-loop-x
invariant-loop-x g l = (k : ℕ) → k < l.x
    → slice_index_or l.row k false ≡ is_free (g.Self.Terrain.grid l.self) (record { x = k; y = l.y })
