-- A file as it is written.
use Rattle.std.specs.Prelude.{ℕ, List, ◌++◌, flat_map}
use Rattle.grid_moves.specs.declared.Corner.{Corner}
use Rattle.plus_tables.specs.Tables.{TablesData}
use Rattle.table_file.specs.Encoding.{entry_bytes, head_bytes}

-- the head, and the entries of two tables
abbrev pub file_of : Corner → TablesData → TablesData → List ℕ
file_of corner land water = head_bytes corner land.width land.height
    ++ (flat_map entry_bytes land.entries ++ flat_map entry_bytes water.entries)
