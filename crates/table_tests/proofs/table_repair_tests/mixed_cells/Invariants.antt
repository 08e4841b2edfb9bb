use Rattle.std.proofs.Common.{◌≡◌, length}
use Rattle.table_tests.proofs.table_repair_tests.mixed_cells.Given as goal

abbrev pub invariant-loop : goal.invariant-loop
invariant-loop l = length l.cells.items ≡ l.counter
