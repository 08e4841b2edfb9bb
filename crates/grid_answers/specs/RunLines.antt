-- What `moves` prints.
use Rattle.std.specs.Prelude.{◌≡◌, ◌%◌, ◌/◌, ℕ, List, ◌++◌, codes, decimal, Option, Some, None, refl}
use Rattle.first_moves.specs.declared.row.Run.{Run}
use Rattle.first_moves.specs.Row.{row_of}
use Rattle.grid_moves.specs.declared.Cell.{Cell}
use Rattle.grid_moves.specs.declared.Dir.{Dir}
use Rattle.grid_moves.specs.declared.Dir.TheVariants.{E}
use Rattle.grid_moves.specs.Layers.{Layers}
use Rattle.cell_lines.specs.Cells.{dir_text, texts_of}
use Rattle.grid_answers.specs.OfCell.{of_cell}

-- the direction of a first move, or that there is none
abbrev pub first_text : Option Dir → List ℕ
first_text None = codes "-"
first_text (Some d) = dir_text d

-- the line of a run, on a map of this width: its first cell, and the first move to each of its cells
abbrev pub run_line : ℕ → Run → List ℕ
run_line width run =
    codes "run " ++ decimal (run.start % width) ++ codes "," ++ decimal (run.start / width) ++ codes " "
    ++ first_text run.first ++ codes "\n"

-- a line for each run
abbrev pub runs_text : ℕ → List Run → List ℕ
runs_text width runs = texts_of (run_line width) runs

-- what is printed of the first moves from s: the runs of its row on the grid of the cell, or why there are
-- none
unfoldable pub moves_answer : Layers → Cell → List ℕ
moves_answer ls s = of_cell ls s (λ line. line) (λ g. runs_text g.width (row_of g s))

-- on a map of three columns, the runs that begin at the cells with the numbers 0 and 5
pub nothing_leads : run_line 3 (record { start = 0; first = None })
    ≡ codes "run " ++ decimal 0 ++ codes "," ++ decimal 0 ++ codes " " ++ codes "-" ++ codes "\n"
nothing_leads = refl

pub east_leads : run_line 3 (record { start = 5; first = Some E })
    ≡ codes "run " ++ decimal 2 ++ codes "," ++ decimal 1 ++ codes " " ++ codes "E" ++ codes "\n"
east_leads = refl
