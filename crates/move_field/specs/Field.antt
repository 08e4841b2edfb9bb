-- The field of first moves to a cell, as text.
use Rattle.std.specs.Prelude.{ℕ, ◌+◌, List, ◌++◌, codes, map, flat_map, Option, Some, None, if◌then◌else◌}
use Rattle.std.specs.List.{range_with_len}
use Rattle.grid_moves.specs.declared.Cell.{Cell}
use Rattle.grid_moves.specs.declared.Dir.{Dir}
use Rattle.grid_moves.specs.Grid.{GridData}
use Rattle.grid_moves.specs.Move.{dir_number, is_same}
use Rattle.first_moves.specs.First.{first_move}

-- the number of a first move, `0` to `7`, or `-` where there is none
abbrev pub move_letter : Option Dir → ℕ
move_letter None = 45
move_letter (Some d) = 48 + dir_number d

-- of a cell: `*` where it is the goal t, else the first move from it to t
abbrev pub field_letter : GridData → Cell → Cell → ℕ
field_letter g t c = if is_same c t then 42 else move_letter (first_move g c t)

-- the line of a row: a letter for each of its cells
abbrev pub row_line : GridData → Cell → ℕ → List ℕ
row_line g t y = map (λ x. field_letter g t (record { x = x; y = y })) (range_with_len 0 g.width) ++ codes "\n"

-- the lines of all rows, from the upper one
unfoldable pub field_text : GridData → Cell → List ℕ
field_text g t = flat_map (row_line g t) (range_with_len 0 g.height)
