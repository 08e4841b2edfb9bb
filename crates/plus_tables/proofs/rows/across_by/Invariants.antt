use Rattle.plus_tables.specs.Rows as spec
use Rattle.plus_tables.proofs.rows.across_by.Given as goal

-- the columns so far are entered
abbrev pub invariant-loop-x : goal.invariant-loop-x
invariant-loop-x l = spec.AreEntriesBelow l.corner l.rows.ahead.now l.rows.here.now l.rows.behind.now l.forced
    l.next.ahead.now l.next.right.now l.next.left.now l.d l.out l.x
