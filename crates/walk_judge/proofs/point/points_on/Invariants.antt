use Rattle.std.proofs.Common.{◌≡◌}
use Rattle.text_line.specs.Fields.{fields_of}
use Rattle.cell_lines.specs.Parts.{points_in}
use Rattle.potential_check.proofs.Words.{with_points}
use Rattle.walk_judge.proofs.point.points_on.Given as goal

-- the points so far, and those of the fields left, are the line's
abbrev pub invariant-loop-field : goal.invariant-loop-field
invariant-loop-field l = points_in (fields_of l.line) ≡ with_points l.points (points_in l.field-iterator)
