use Rattle.std.proofs.Common.{◌≡◌, ◌++◌}
use Rattle.move_field.proofs.Written.{letters_to}
use Rattle.move_field.proofs.field.put_row.Given as goal

-- the letters up to this column are written
abbrev pub invariant-loop-x : goal.invariant-loop-x
invariant-loop-x g l =
    l.out.items ≡ l.fn.out.items ++ letters_to (g.T.Terrain.grid l.t) l.goal l.y l.x
