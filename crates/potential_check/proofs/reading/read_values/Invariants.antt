use Rattle.std.proofs.Common.{◌≡◌, true, length}
use Rattle.std.specs.List.{list_all}
use Rattle.potential_check.specs.Certificate.{are_points, cells_of, is_small, lies_inside}
use Rattle.potential_check.specs.Text.{AreShort, in_values, read_left}
use Rattle.potential_check.proofs.LinesLeft.{ascend_to}
use Rattle.potential_check.proofs.reading.read_values.Given as goal

-- the lines left are read as all were, after the values so far, which may stand in a certificate
abbrev pub invariant-loop-line : goal.invariant-loop-line
invariant-loop-line l = record {
  read : read_left (in_values l.head l.cost l.initial.points l.initial.least l.initial.values)
      l.initial.lines ≡ read_left
      (in_values l.head l.cost l.points l.least l.values) l.lines;
  number : l.number ≡ l.lines.number;
  short : AreShort l.lines;
  may : are_points l.points ≡ true;
  low : list_all (λ entry. is_small entry.1) l.values ≡ true;
  inside : list_all (lies_inside l.head.width l.head.height) (cells_of l.values) ≡ true;
  ascend : ascend_to l.head.width 0 (cells_of l.values) l.least ≡ true;
}

abbrev pub decreases-loop-line : goal.decreases-loop-line
decreases-loop-line l = length l.lines.lines
