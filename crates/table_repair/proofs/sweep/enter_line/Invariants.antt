-- The places from this one on wait, and what waits for the walks; a step for each change, walk and place.
use Rattle.std.proofs.Common.{◌≡◌, ◌+◌, ◌*◌, ◌-◌, ◌≤◌, true, length}
use Rattle.grid_moves.specs.declared.Cell.{Cell}
use Rattle.table_repair.specs.Abreast.{KeepAbreast, IsBehindOne, is_at_one}
use Rattle.table_repair.specs.Lines.{is_on_line}
use Rattle.table_repair.specs.Mending.{either, span_length}
use Rattle.table_repair.proofs.Across.{from_place}
use Rattle.table_repair.proofs.sweep.enter_line.Given as goal

abbrev pub invariant-loop-place : goal.invariant-loop-place
invariant-loop-place g l = record {
  abreast : KeepAbreast l.grid l.d (either (is_at_one l.fn.walks.items) (is_on_line l.d l.line l.fn.places))
      l.fn.tables l.tables l.walks.items (is_on_line l.d l.line (from_place l.place l.fn.places)) l.changed;
  behind : (w : Cell) → is_at_one l.walks.items w ≡ true
      → IsBehindOne l.d (either (is_at_one l.fn.walks.items) (is_on_line l.d l.line l.fn.places)) w;
  begun : l.fn.places.first ≤ l.place;
  short : length l.walks.items ≤ 255;
  few : l.changed + 1048577 * (l.fn.places.end - l.place) ≤ 255 + 1048577 * span_length l.fn.places;
  counted : l.steps + length l.walks.items + (l.fn.places.end - l.place)
      ≤ l.fn.steps + l.changed + (length l.fn.walks.items + span_length l.fn.places);
  later : l.fn.steps ≤ l.steps;
}
