-- What a search answers: its run, and its way along the parents.
use Rattle.std.specs.Prelude.{◌≡◌, ℕ, true, List, ◌∷◌, map, MatchOption}
use Rattle.root2_cost.specs.declared.Cost.{Cost}
use Rattle.grid_moves.specs.declared.Cell.{Cell}
use Rattle.grid_moves.specs.Grid.{GridData, is_free}
use Rattle.path_points.specs.Least.{IsLeastOrNone}
use Rattle.search_run.specs.Run.{Taken, IsRun, way_to}
use Rattle.best_first.specs.declared.found.Found.{Found}
use Rattle.best_first.specs.declared.state.State.{State}
use Rattle.best_first.specs.Progress.{IsExhausted, numbers_of}
use Rattle.best_first.specs.Rule.{Links, search_rule}
use Rattle.best_first.specs.State.{start_at}

-- a search shows its way by points that this makes of the way's cells
module _ (width : ℕ) (goal : Cell) (link : Links) (shown : List Cell → List Cell) (start : Cell) where
  -- the run takes the goal last, at this cost; the points show the way along the parents
  pub record IsFound (points : List Cell) (cost : Cost) (taken : List ℕ) : Type 0 where
    pub earlier : List (Taken State)
    pub last : Taken State
    pub run : IsRun (search_rule width goal link) (start_at start) (last ∷ earlier)
    pub at_goal : last.state.cell ≡ goal
    pub priced : cost ≡ last.cost
    pub along : points ≡ shown
        (map (λ u. u.cell) (way_to (search_rule width goal link) (last ∷ earlier) last.state))
    pub numbered : taken ≡ numbers_of width link (last ∷ earlier)

  -- the answer and the taken states are those of the run
  abbrev pub IsAnswer : Found → Type 0
  IsAnswer f =
      MatchOption f.walk (IsExhausted width goal link start f.taken) (λ w. IsFound w.points w.cost f.taken)

-- of each two cells this tells an answer: that of the run,
-- which is right where the start is free, and the only one
pub record AnswersAre (IsOf : GridData → Cell → Cell → Found → Type 0)
    (found : GridData → Cell → Cell → Found) : Type 0 where
  pub run : (g : GridData) (s t : Cell) → IsOf g s t (found g s t)
  pub least : (g : GridData) (s t : Cell) → is_free g s ≡ true → IsLeastOrNone g s t (found g s t).walk
  pub only : (g : GridData) (s t : Cell) (f : Found) → IsOf g s t f → f ≡ found g s t
