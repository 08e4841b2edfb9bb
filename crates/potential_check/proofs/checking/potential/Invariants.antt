use Rattle.std.proofs.Common.{◌≡◌, drop}
use Rattle.potential_check.specs.Potential.{potential_of}
use Rattle.potential_check.proofs.checking.potential.Given as goal

-- the entries left decide
abbrev pub invariant-loop-cell : goal.invariant-loop-cell
invariant-loop-cell l = potential_of l.cost l.goal (drop l.cell-index l.cell-items) l.c
    ≡ potential_of l.cost l.goal l.cell-items l.c
