use Rattle.potential_check.specs.Rising.{Reach}
use Rattle.potential_check.proofs.rising.Hills.first_rows.Given as goal

-- the first row is left from this column on
abbrev pub invariant-loop-x : goal.invariant-loop-x
invariant-loop-x l = Reach l.self 0 l.x l.below
