-- What a search over jumps answers: its run, and the cells of the states along the parents.
use Rattle.std.specs.Prelude.{ℕ, List}
use Rattle.root2_cost.specs.declared.Cost.{Cost}
use Rattle.grid_moves.specs.declared.Cell.{Cell}
use Rattle.grid_moves.specs.Grid.{GridData}
use Rattle.best_first.specs.declared.found.Found.{Found}
use Rattle.best_first.specs.declared.state.Layout.{Layout}
use Rattle.best_first.specs.Answer as answer
use Rattle.best_first.specs.Made.{found_of}
use Rattle.best_first.specs.Progress as progress
use Rattle.search_core.specs.Jumps.{jump_links}

-- the run from s takes t last, at this cost; the points are the cells of the states along the parents
abbrev pub IsFound : Layout → GridData → Cell → Cell → List Cell → Cost → List ℕ → Type 0
IsFound layout g s t points cost taken =
    answer.IsFound g.width t (jump_links layout g t) (λ cells. cells) s points cost taken

-- the run from s takes states of these numbers and ends where no state waits, with t not taken
abbrev pub IsExhausted : Layout → GridData → Cell → Cell → List ℕ → Type 0
IsExhausted layout g s t taken = progress.IsExhausted g.width t (jump_links layout g t) s taken

-- the answer and the taken states are those of the jump engines' run from s to t, with a state for each
-- arrival at a cell or one for each cell
abbrev pub IsJumpRun : Layout → GridData → Cell → Cell → Found → Type 0
IsJumpRun layout g s t f = answer.IsAnswer g.width t (jump_links layout g t) (λ cells. cells) s f

-- what that run answers
unfoldable pub jump_found : Layout → GridData → Cell → Cell → Found
jump_found layout g s t = found_of g.width g.height t (jump_links layout g t) (λ cells. cells) s
