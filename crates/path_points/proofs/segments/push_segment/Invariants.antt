use Rattle.std.proofs.Common.{◌≡◌, ◌++◌, ◌-◌}
use Rattle.grid_moves.specs.Points.{segment}
use Rattle.path_points.proofs.segments.push_segment.Given as goal

-- the cells that are left complete the segment
abbrev pub invariant-loop : goal.invariant-loop
invariant-loop l =
    l.cells ++ segment (l.end - l.counter) l.at l.to ≡ l.initial.cells ++ segment l.end l.initial.at l.to
