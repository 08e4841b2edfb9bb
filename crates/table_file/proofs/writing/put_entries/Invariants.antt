use Rattle.table_file.proofs.Putting.{ArePut}
use Rattle.table_file.proofs.writing.put_entries.Given as goal

-- the cells behind are written, and the entries of the others are left
abbrev pub invariant-loop-done : goal.invariant-loop-done
invariant-loop-done l = ArePut l.initial.out.items l.cells l.entries l.left l._done l.out.items
