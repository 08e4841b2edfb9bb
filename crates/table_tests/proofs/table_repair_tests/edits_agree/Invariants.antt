-- The tables are those of the grid, whose sides stay.
use Rattle.std.proofs.Common.{◌≡◌}
use Rattle.plus_tables.specs.Tables.{AreTablesOf}
use Rattle.table_tests.proofs.table_repair_tests.edits_agree.Given as goal

abbrev pub invariant-loop : goal.invariant-loop
invariant-loop g l = record {
  tables : AreTablesOf l.tables l.grid;
  width : l.grid.width ≡ l.side;
  height : l.grid.height ≡ l.side;
}
