use Rattle.map_text.proofs.Written.{AreWritten}
use Rattle.map_text.proofs.writing.put_rows.Given as goal

-- the rows behind are written, and the cells of the others are left
abbrev pub invariant-loop-done : goal.invariant-loop-done
invariant-loop-done l = AreWritten l.initial.out.items l.height l.width l.cells l.left l._done l.out.items
