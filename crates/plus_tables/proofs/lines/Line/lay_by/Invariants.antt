use Rattle.plus_tables.specs.Laid.{AreLaid}
use Rattle.plus_tables.proofs.lines.Line.lay_by.Given as goal

-- the cells to the left are written
abbrev pub invariant-loop-x : goal.invariant-loop-x
invariant-loop-x g l = AreLaid l.heading l.self l.x l.initial.row l.row
