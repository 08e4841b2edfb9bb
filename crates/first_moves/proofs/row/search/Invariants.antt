use Rattle.std.proofs.Common.{◌-◌}
use Rattle.first_moves.specs.Span.{IsSpan}
use Rattle.first_moves.proofs.row.search.Given as goal

abbrev pub invariant-loop-high : goal.invariant-loop-high
invariant-loop-high l = IsSpan l.runs l.number l.low l.high

abbrev pub decreases-loop-high : goal.decreases-loop-high
decreases-loop-high l = l.high - l.low
