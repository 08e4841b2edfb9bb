-- What the plain engine answers: its run, and the corners of the way along the parents.
use Rattle.std.specs.Prelude.{ℕ, List}
use Rattle.root2_cost.specs.declared.Cost.{Cost}
use Rattle.grid_moves.specs.declared.Cell.{Cell}
use Rattle.grid_moves.specs.Grid.{GridData}
use Rattle.path_points.specs.Corners.{corners}
use Rattle.best_first.specs.declared.found.Found.{Found}
use Rattle.best_first.specs.Answer as answer
use Rattle.best_first.specs.Made.{found_of}
use Rattle.best_first.specs.Progress as search
use Rattle.plain_search.specs.Rule.{plain_links}

-- the run from s takes t last, at this cost; the points are the corners of the way along the parents
abbrev pub IsFound : GridData → Cell → Cell → List Cell → Cost → List ℕ → Type 0
IsFound g s t points cost taken = answer.IsFound g.width t (plain_links g) corners s points cost taken

-- the run from s ends where no state waits, with t not taken
abbrev pub IsExhausted : GridData → Cell → Cell → List ℕ → Type 0
IsExhausted g s t taken = search.IsExhausted g.width t (plain_links g) s taken

-- the answer is that of the plain engine's run from s to t
abbrev pub IsPlainRun : GridData → Cell → Cell → Found → Type 0
IsPlainRun g s t f = answer.IsAnswer g.width t (plain_links g) corners s f

-- what that run answers
unfoldable pub plain_found : GridData → Cell → Cell → Found
plain_found g s t = found_of g.width g.height t (plain_links g) corners s
