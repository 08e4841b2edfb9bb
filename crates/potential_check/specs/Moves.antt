-- The first legal move that has a property: first by the number of the cell that it starts from, then by
-- direction.
use Rattle.std.specs.Prelude.{ℕ, zero, suc, ◌+◌, Bool, Option, Some, None, if◌then◌else◌, List, [], ◌∷◌}
use Rattle.std.specs.Option.{option_or}
use Rattle.grid_moves.specs.declared.Cell.{Cell}
use Rattle.grid_moves.specs.declared.Dir.{Dir}
use Rattle.grid_moves.specs.Grid.{GridData}
use Rattle.grid_moves.specs.Move.{all_dirs, legal_ahead}

-- the move from u to the cell ahead, if it is legal, there is one, and it has the property
abbrev pub failing_move : (Cell → Cell → Bool) → Cell → Option Cell → Option (Cell × Cell)
failing_move fails u None = None
failing_move fails u (Some v) = if fails u v then Some (u, v) else None

-- the first from u, in these directions
abbrev pub first_ahead : GridData → (Cell → Cell → Bool) → Cell → List Dir → Option (Cell × Cell)
first_ahead g fails u [] = None
first_ahead g fails u (d ∷ dirs) =
    option_or (failing_move fails u (legal_ahead g u d)) (first_ahead g fails u dirs)

-- the first from the next `count` cells of row y, from column x on
abbrev pub first_in_row : GridData → (Cell → Cell → Bool) → ℕ → ℕ → ℕ → Option (Cell × Cell)
first_in_row g fails y x zero = None
first_in_row g fails y x (suc count) = option_or (first_ahead g fails (record { x = x; y = y }) all_dirs)
    (first_in_row g fails y (x + 1) count)

-- the first from the next `count` rows, from row y on
abbrev pub first_in_rows : GridData → (Cell → Cell → Bool) → ℕ → ℕ → Option (Cell × Cell)
first_in_rows g fails y zero = None
first_in_rows g fails y (suc count) =
    option_or (first_in_row g fails y 0 g.width) (first_in_rows g fails (y + 1) count)

-- the first on the whole map
abbrev pub first_failing : GridData → (Cell → Cell → Bool) → Option (Cell × Cell)
first_failing g fails = first_in_rows g fails 0 g.height
