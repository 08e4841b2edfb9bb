use Rattle.std.proofs.Common.{◌≡◌}
use Rattle.potential_check.specs.Text.{ended, plain, read_left}
use Rattle.potential_check.proofs.reading.read_end.Given as goal

-- the lines left are read as all were
abbrev pub invariant-loop-line : goal.invariant-loop-line
invariant-loop-line l =
    read_left (ended (plain l.certificate)) l.fn.lines ≡ read_left (ended (plain l.certificate))
    l.line-iterator
