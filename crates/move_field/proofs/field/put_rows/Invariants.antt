use Rattle.std.proofs.Common.{◌≡◌, ◌++◌}
use Rattle.move_field.proofs.Written.{lines_to}
use Rattle.move_field.proofs.field.put_rows.Given as goal

-- the lines up to this row are written
abbrev pub invariant-loop-y : goal.invariant-loop-y
invariant-loop-y g l = l.out.items ≡ l.fn.out.items ++ lines_to (g.T.Terrain.grid l.t) l.goal l.y
