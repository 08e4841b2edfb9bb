-- The cells of a grid that one comes to first. No public clause cites this module.
use Rattle.std.specs.Prelude.{ℕ, Bool, ◌&&◌, ◌||◌, nat_lt, nat_eq}
use Rattle.grid_moves.specs.declared.Cell.{Cell}
use Rattle.grid_moves.specs.Grid.{GridData, is_free}

-- the cell is free, and stands in a row above, or in this row before the column
abbrev pub is_free_before : GridData → ℕ → ℕ → Cell → Bool
is_free_before g row column c =
    is_free g c && (nat_lt c.y row || nat_eq c.y row && nat_lt c.x column)
