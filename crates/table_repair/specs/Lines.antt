-- Lines across a direction: no cell of one lies ahead of another.
use Rattle.std.specs.Prelude.{ℕ, Bool, true, false, ◌&&◌, nat_eq, if◌then◌else◌}
use Rattle.grid_moves.specs.declared.Cell.{Cell}
use Rattle.grid_moves.specs.declared.Dir.{Dir}
use Rattle.grid_moves.specs.declared.Dir.TheVariants.{E, W}
use Rattle.grid_moves.specs.Grid.{GridData}
use Rattle.table_repair.specs.declared.span.Span.{Span}
use Rattle.table_repair.specs.Mending.{is_among, goes_right, goes_down}

-- the direction leads along a row: columns lie across it, and else rows
abbrev pub is_sideways : Dir → Bool
is_sideways E = true
is_sideways W = true
is_sideways _ = false

-- the line of a cell, and its place there
abbrev pub line_of : Dir → Cell → ℕ
line_of d v = if is_sideways d then v.x else v.y

abbrev pub place_of : Dir → Cell → ℕ
place_of d v = if is_sideways d then v.y else v.x

abbrev pub cell_on : Dir → ℕ → ℕ → Cell
cell_on d line place =
    if is_sideways d then record { x = line; y = place } else record { x = place; y = line }

-- how many lines there are, and places in each
abbrev pub lines_of : GridData → Dir → ℕ
lines_of h d = if is_sideways d then h.width else h.height

abbrev pub places_of : GridData → Dir → ℕ
places_of h d = if is_sideways d then h.height else h.width

-- the numbers of the lines rise along the direction
abbrev pub lines_rise : Dir → Bool
lines_rise d = if is_sideways d then goes_right d else goes_down d

-- the cell lies in this line, or in one of these, and at one of these places
abbrev pub is_on_line : Dir → ℕ → Span → Cell → Bool
is_on_line d line places v = nat_eq (line_of d v) line && is_among places (place_of d v)

abbrev pub is_across : Dir → Span → Span → Cell → Bool
is_across d lines places v = is_among lines (line_of d v) && is_among places (place_of d v)
