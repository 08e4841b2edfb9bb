-- The directions up to this one are done.
use Rattle.std.proofs.Common.{◌≡◌, [], ◌+◌, ◌*◌, ◌≤◌, take}
use Rattle.pruning.specs.Turns.{is_diagonal}
use Rattle.table_repair.specs.Mending.{any_cell, is_in_reach, is_listed}
use Rattle.table_repair.proofs.Passes.{Passed}
use Rattle.table_repair.proofs.repair.sweep_diagonals.Given as goal

abbrev pub invariant-loop-d : goal.invariant-loop-d
invariant-loop-d g l = record {
  passed : Passed l.grid is_diagonal any_cell (is_in_reach l.grid l.rows l.columns l.by)
      (is_listed (take l.d-index l.dirs)) l.fn.tables l.tables l.changed;
  few : l.changed ≤ 35184409837568 * l.d-index;
  counted : l.steps
      ≤ l.fn.steps + l.changed + l.d-index * (3 * (l.grid.width + l.grid.height));
  none : l.walks.items ≡ [];
  later : l.fn.steps ≤ l.steps;
}
