-- The directions up to this one are done.
use Rattle.std.proofs.Common.{◌≡◌, [], ◌+◌, ◌*◌, ◌≤◌, take}
use Rattle.table_repair.specs.Mending.{is_in, is_listed, is_straight, span_length}
use Rattle.table_repair.proofs.Passes.{Passed}
use Rattle.table_repair.proofs.repair.sweep_straight.Given as goal

abbrev pub invariant-loop-d : goal.invariant-loop-d
invariant-loop-d g l = record {
  passed : Passed l.grid is_straight (is_in l.rows l.columns) (λ d. is_in l.rows l.columns)
      (is_listed (take l.d-index l.dirs)) l.fn.tables l.tables l.changed;
  few : l.changed ≤ 17592204918784 * l.d-index;
  counted : l.steps
      ≤ l.fn.steps + l.changed + l.d-index * (span_length l.rows * span_length l.columns);
  none : l.walks.items ≡ [];
  later : l.fn.steps ≤ l.steps;
}
