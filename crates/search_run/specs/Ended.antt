-- Runs that end, and what lets a run end: finitely many states that links lead to.
use Rattle.std.specs.Prelude.{◌≡◌, Bool, true, false, ◌||◌, ◌⊎◌, List, [], ◌∷◌, Some}
use Rattle.root2_cost.specs.declared.Cost.{Cost}
use Rattle.search_run.specs.Run.{Rule, Taken, IsRun, NoneWaits, has_goal}

-- a goal is taken, or no state waits
abbrev pub IsEnded : {S : Type 0} → Rule S → List (Taken S) → Type 0
IsEnded r run = (has_goal r run ≡ true) ⊎ NoneWaits r run

-- this is a run from the start, and it ends
pub record IsEndedRun {S : Type 0} (r : Rule S) (start : S) (run : List (Taken S)) : Type 0 where
  pub is_run : IsRun r start run
  pub ended : IsEnded r run

-- the state is one of these
abbrev pub is_one_of : {S : Type 0} → Rule S → List S → S → Bool
is_one_of r [] s = false
is_one_of r (v ∷ rest) s = r.is_same v s || is_one_of r rest s

-- each state that a link leads to is one of these
abbrev pub IsCovered : {S : Type 0} → Rule S → List S → Type 0
IsCovered {S} r all = (p u v : S) (c : Cost) → r.link p u v ≡ Some c → is_one_of r all v ≡ true
