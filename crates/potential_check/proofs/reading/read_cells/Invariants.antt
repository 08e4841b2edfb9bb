use Rattle.std.proofs.Common.{◌≡◌, true, length}
use Rattle.std.specs.List.{list_all}
use Rattle.potential_check.specs.Certificate.{lies_inside}
use Rattle.potential_check.specs.Text.{AreShort, in_cells, read_left}
use Rattle.potential_check.proofs.LinesLeft.{ascend_to}
use Rattle.potential_check.proofs.reading.read_cells.Given as goal

-- the lines left are read as all were, after the cells so far, which may stand in a certificate
abbrev pub invariant-loop-line : goal.invariant-loop-line
invariant-loop-line l = record {
  read : read_left (in_cells l.head l.initial.least l.initial.cells) l.initial.lines ≡ read_left
      (in_cells l.head l.least l.cells) l.lines;
  number : l.number ≡ l.lines.number;
  short : AreShort l.lines;
  inside : list_all (lies_inside l.head.width l.head.height) l.cells ≡ true;
  ascend : ascend_to l.head.width 0 l.cells l.least ≡ true;
}

abbrev pub decreases-loop-line : goal.decreases-loop-line
decreases-loop-line l = length l.lines.lines
