-- What a repair is given.
use Rattle.std.specs.Prelude.{ℕ}
use Rattle.grid_moves.specs.declared.Cell.{Cell}
use Rattle.grid_moves.specs.Grid.{GridData}
use Rattle.plus_tables.specs.Tables.{TablesData, AreTablesOf}
use Rattle.table_repair.specs.Differ.{DifferAtMostAt}

-- the sides of the maps for which a repairer is made
pub record MapSides : Type 0 where
  pub width : ℕ
  pub height : ℕ

-- the tables are those of some grid that differs from this one at most at the cell
pub record AreTablesBut (t : TablesData) (h : GridData) (c : Cell) : Type 0 where
  pub before : GridData
  pub tables : AreTablesOf t before
  pub differ : DifferAtMostAt c before h
