use Rattle.std.proofs.Common.{◌≡◌, ◌+◌, ◌≤◌, true, length}
use Rattle.std.specs.List.{list_all}
use Rattle.cell_lines.specs.Parts.{parts, points_in}
use Rattle.potential_check.specs.Certificate.{is_short}
use Rattle.potential_check.specs.Forms as spec
use Rattle.potential_check.proofs.Words.{with_points}
use Rattle.potential_check.proofs.forms.points_on.Given as goal

-- the points so far, and those of the words left, are the line's
abbrev pub invariant-loop-point : goal.invariant-loop-point
invariant-loop-point l = record {
  points : spec.points_on l.line ≡ with_points l.points (points_in (parts 32 l.rest));
  short : list_all is_short l.points ≡ true;
  few : length l.points + length l.rest + 7 ≤ length l.line;
}

abbrev pub decreases-loop-point : goal.decreases-loop-point
decreases-loop-point l = length l.rest
