-- What is found in a row.
use Rattle.std.specs.Prelude.{◌≡◌, ℕ, true, List, Option}
use Rattle.grid_moves.specs.declared.Cell.{Cell}
use Rattle.grid_moves.specs.declared.Dir.{Dir}
use Rattle.grid_moves.specs.Grid.{GridData, cell_number, is_inside}
use Rattle.first_moves.specs.declared.row.Run.{Run}
use Rattle.first_moves.specs.First.{IsFirstMove}
use Rattle.first_moves.specs.Row.{IsRow}

-- the answer is the first move to the cell of this number, from the cell whose row these runs are
abbrev pub FindsFirst : List Run → ℕ → Option Dir → Type 0
FindsFirst runs number answer = (g : GridData) (s t : Cell) → IsRow g s runs → is_inside g t ≡ true
    → number ≡ cell_number g.width t → IsFirstMove g s t answer
