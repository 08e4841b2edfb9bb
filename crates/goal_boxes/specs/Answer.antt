-- What the boxed search answers: its run, and the points along the parents.
use Rattle.std.specs.Prelude.{ℕ, List}
use Rattle.root2_cost.specs.declared.Cost.{Cost}
use Rattle.grid_moves.specs.declared.Cell.{Cell}
use Rattle.grid_moves.specs.Grid.{GridData}
use Rattle.path_points.specs.Corners.{corners}
use Rattle.best_first.specs.declared.found.Found.{Found}
use Rattle.best_first.specs.Answer as answer
use Rattle.best_first.specs.Progress as search
use Rattle.goal_boxes.specs.Box.{BoxTeller, TellsBoxes}
use Rattle.goal_boxes.specs.Rule.{boxed_links}
use Rattle.goal_boxes.specs.Stored.{BoxData, box_at}

-- the run from s takes t last, at this cost; the points are the corners of the way along the parents
abbrev pub IsFound : GridData → BoxTeller → Cell → Cell → List Cell → Cost → List ℕ → Type 0
IsFound g box s t points cost taken =
    answer.IsFound g.width t (boxed_links g box t) corners s points cost taken

-- the run from s ends where no state waits, with t not taken
abbrev pub IsExhausted : GridData → BoxTeller → Cell → Cell → List ℕ → Type 0
IsExhausted g box s t taken = search.IsExhausted g.width t (boxed_links g box t) s taken

-- the answer and the taken states are those of the run from s to t that goes by these boxes
abbrev pub IsRunBy : GridData → BoxTeller → Cell → Cell → Found → Type 0
IsRunBy g box s t r = answer.IsAnswer g.width t (boxed_links g box t) corners s r

-- the same by boxes that are kept
abbrev pub IsBoxedRun : GridData → BoxData → Cell → Cell → Found → Type 0
IsBoxedRun g b s t r = IsRunBy g (box_at b) s t r

-- the answer and the taken states are those of the boxed run from s to t: the one that goes by the boxes of
-- the grid, whether they are kept or not
pub record IsBoxedRunOn (g : GridData) (s t : Cell) (r : Found) : Type 0 where
  pub box : BoxTeller
  pub tells : TellsBoxes g box
  pub run : IsRunBy g box s t r
