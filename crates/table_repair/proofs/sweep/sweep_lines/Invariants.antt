-- What is left of the lines waits, and what waits for the walks, which have come past those lines.
use Rattle.std.proofs.Common.{◌≡◌, ◌+◌, ◌*◌, ◌≤◌, ℕ, true, length}
use Rattle.grid_moves.specs.declared.Cell.{Cell}
use Rattle.table_repair.specs.Abreast.{KeepAbreast, is_at_one}
use Rattle.table_repair.specs.Lines.{is_across, line_of, lines_rise}
use Rattle.table_repair.specs.Mending.{span_length, is_among}
use Rattle.table_repair.proofs.Entering.{IsPast}
use Rattle.table_repair.proofs.sweep.sweep_lines.Given as goal

abbrev pub invariant-loop-line : goal.invariant-loop-line
invariant-loop-line g l = record {
  abreast : KeepAbreast l.grid l.d (is_across l.d l.fn.lines l.places) l.fn.tables l.tables l.walks.items
      (is_across l.d l.left l.places) l.changed;
  past : (w : Cell) → is_at_one l.walks.items w ≡ true → IsPast (lines_rise l.d) l.left (line_of l.d w);
  within : (k : ℕ) → is_among l.left k ≡ true → is_among l.fn.lines k ≡ true;
  short : length l.walks.items ≤ 255;
  few : l.changed + 4294971648 * span_length l.left ≤ 4294971648 * span_length l.fn.lines;
  counted : l.steps + length l.walks.items + span_length l.left * span_length l.places
      ≤ l.fn.steps + l.changed + span_length l.fn.lines * span_length l.places;
  later : l.fn.steps ≤ l.steps;
}

abbrev pub decreases-loop-line : goal.decreases-loop-line
decreases-loop-line g l = span_length l.left
