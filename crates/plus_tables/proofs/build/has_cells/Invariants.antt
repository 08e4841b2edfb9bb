use Rattle.std.proofs.Common.{◌≡◌, false, ◌<◌}
use Rattle.grid_moves.specs.declared.Cell.{Cell}
use Rattle.grid_moves.specs.Grid.{is_free}
use Rattle.plus_tables.proofs.build.has_cells.Given as goal

-- no cell of the rows so far is free
abbrev pub invariant-loop-y : goal.invariant-loop-y
invariant-loop-y g l = (c : Cell) → c.y < l.y → is_free (g.T.Terrain.grid l.t) c ≡ false

-- nor one of this row so far
abbrev pub invariant-loop-x : goal.invariant-loop-x
invariant-loop-x g l = (c : Cell) → c.y ≡ l.y → c.x < l.x → is_free (g.T.Terrain.grid l.t) c ≡ false
