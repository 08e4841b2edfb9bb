use Rattle.picture.proofs.Passing.{HasPassed}
use Rattle.picture.proofs.strokes.put_runs.Given as goal

-- the cells behind, and those of the run that is under way
abbrev pub invariant-loop-x : goal.invariant-loop-x
invariant-loop-x l = HasPassed l.fn.kind l.number l.fn.out.items l.row l.x l.long l.out.items
