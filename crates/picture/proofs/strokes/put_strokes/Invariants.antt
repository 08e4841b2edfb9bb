use Rattle.picture.proofs.Rows.{AreDrawn}
use Rattle.picture.proofs.strokes.put_strokes.Given as goal

-- the rows behind are drawn, and the cells of the others are left
abbrev pub invariant-loop-y : goal.invariant-loop-y
invariant-loop-y l = AreDrawn l.fn.kind l.fn.out.items l.height l.width l.fn.cells l.left l.y l.out.items
