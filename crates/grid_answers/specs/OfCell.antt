-- What is printed of one cell.
use Rattle.std.specs.Prelude.{◌≡◌, ℕ, if◌then◌else◌, List, [], codes, Option, Some, None, refl}
use Rattle.std.specs.Option.{option_map_or}
use Rattle.grid_moves.specs.declared.Cell.{Cell}
use Rattle.grid_moves.specs.declared.Ground.TheVariants.{Blocked}
use Rattle.grid_moves.specs.Grid.{GridData}
use Rattle.grid_moves.specs.Layers.{Layers, is_free_ground, is_on_map, layers_with, query_grid, shore}

-- the line that says why nothing is told of a cell, where it lies outside or is neither land nor water
abbrev pub why_untold : Layers → Cell → Option (List ℕ)
why_untold ls s = if is_on_map ls s then (if is_free_ground ls s then None else Some (codes "blocked\n"))
    else Some (codes "outside\n")

-- that line, alone; or, of any other cell, what is told on its grid
abbrev pub of_cell : {X : Type 0} → Layers → Cell → (List ℕ → X) → (GridData → X) → X
of_cell ls s alone told = option_map_or alone (why_untold ls s) (told (query_grid ls s))

-- worked rows on the map `.WW/.WW`: outside it, and where a cell was blocked
pub off_the_shore : of_cell shore (record { x = 3; y = 0 }) (λ line. line) (λ g. []) ≡ codes "outside\n"
off_the_shore = refl

pub of_a_block : of_cell (layers_with shore (record { x = 2; y = 0 }) Blocked) (record { x = 2; y = 0 })
    (λ line. line) (λ g. []) ≡ codes "blocked\n"
of_a_block = refl
