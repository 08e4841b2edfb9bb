-- What a session prints of the costs from a cell, and of the first moves to it: a line with the map's sides,
-- and the lines of its rows.
use Rattle.std.specs.Prelude.{ℕ, List, ◌++◌, codes, decimal}
use Rattle.std.specs.List.{concat}
use Rattle.grid_moves.specs.declared.Cell.{Cell}
use Rattle.grid_moves.specs.Grid.{GridData}
use Rattle.grid_moves.specs.Layers.{Layers}
use Rattle.move_field.specs.Field.{field_text}
use Rattle.grid_answers.specs.Distances.{cost_lines}
use Rattle.grid_answers.specs.OfCell.{of_cell}

-- `W H` behind this word
abbrev pub frame_line : List ℕ → GridData → List ℕ
frame_line word g = word ++ codes " " ++ decimal g.width ++ codes " " ++ decimal g.height ++ codes "\n"

-- `costs W H` and the lines of all rows, on the grid of the cell; or the line that says why there are none
unfoldable pub framed_costs : Layers → Cell → List ℕ
framed_costs ls s =
    of_cell ls s (λ line. line) (λ g. frame_line (codes "costs") g ++ concat (cost_lines g s))

-- `field W H` and the lines of all rows, on the grid of the cell; or the line that says why there is none
unfoldable pub framed_field : Layers → Cell → List ℕ
framed_field ls t =
    of_cell ls t (λ line. line) (λ g. frame_line (codes "field") g ++ field_text g t)
