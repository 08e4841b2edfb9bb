-- What holds of all runs, whatever the rule and its states.
use Rattle.std.specs.Prelude.{◌≡◌, true, false, List, ◌∷◌, Some}
use Rattle.root2_cost.specs.declared.Cost.{Cost}
use Rattle.root2_cost.specs.Order.{IsLess, IsAtMost}
use Rattle.root2_cost.specs.Sums.{add_costs}
use Rattle.search_run.specs.Run.{Rule, Taken, IsIn, IsRun, NoneWaits, has_goal, is_taken, least_offer, sum_at}
use Rattle.search_run.specs.Ended.{IsEnded, IsEndedRun, IsCovered}
use Rattle.search_run.specs.Made.{run_of}
use Rattle.search_run.specs.Chain.{Chain, IsConsistent}

-- numbers tell apart the states that links lead to
pub record NumbersTellStates {S : Type 0} (r : Rule S) : Type 0 where
  pub apart : (p q u v s t : S) (c d : Cost) → r.link p u s ≡ Some c → r.link q v t ≡ Some d
      → r.number s ≡ r.number t → s ≡ t

-- no chain to a goal undercuts the cost at which a goal was taken
abbrev pub GoalsAreLeast : Type 0 → Type 0
GoalsAreLeast S =
    (r : Rule S) → IsConsistent r → (start t : S) (x : Taken S) (earlier : List (Taken S)) (d : Cost)
    → IsRun r start (x ∷ earlier) → r.is_goal x.state ≡ true → Chain r start t d → r.is_goal t ≡ true
    → IsAtMost x.cost d

-- no chain to a taken state undercuts the cost at which it was taken
abbrev pub TakenAreLeast : Type 0 → Type 0
TakenAreLeast S =
    (r : Rule S) → IsConsistent r → (start : S) (run : List (Taken S)) (u : Taken S) (d : Cost)
    → IsRun r start run → IsIn u run → Chain r start u.state d → IsAtMost u.cost d

-- a state whose sum by some chain is below that of the last taken state was taken
abbrev pub LesserSumsAreTaken : Type 0 → Type 0
LesserSumsAreTaken S =
    (r : Rule S) → IsConsistent r → (start t : S) (x : Taken S) (earlier : List (Taken S)) (d : Cost)
    → IsRun r start (x ∷ earlier) → Chain r start t d → IsLess (sum_at r t d) (sum_at r x.state x.cost)
    → is_taken r (x ∷ earlier) t ≡ true

-- where the run ends with no goal taken, each state to which a chain leads was taken
abbrev pub EndedRunsMissNone : Type 0 → Type 0
EndedRunsMissNone S =
    (r : Rule S) → IsConsistent r → (start t : S) (run : List (Taken S)) (d : Cost) → IsRun r start run
    → NoneWaits r run → has_goal r run ≡ false → Chain r start t d → is_taken r run t ≡ true

-- a later offer of the last taken state does not better a taken one
abbrev pub TakenAreNotBettered : Type 0 → Type 0
TakenAreNotBettered S =
    (r : Rule S) → IsConsistent r → (start : S) (x : Taken S) (earlier : List (Taken S)) (u : Taken S)
    (c : Cost)
    → IsRun r start (x ∷ earlier) → IsIn u (x ∷ earlier) → r.link x.parent x.state u.state ≡ Some c
    → IsAtMost u.cost (add_costs x.cost c)

-- what the parent of the last taken state leads to at no greater cost than the way over that state, the
-- state may leave out: the least offer is the same with and without it
abbrev pub ParentsOffersStand : Type 0 → Type 0
ParentsOffersStand S =
    (r : Rule S) (start : S) (x y : Taken S) (earlier : List (Taken S)) (v : S) (b c d : Cost)
    → IsRun r start (x ∷ y ∷ earlier) → ((p : S) → r.link p x.parent x.state ≡ Some b)
    → ((p : S) → r.link p x.parent v ≡ Some c) → r.link x.parent x.state v ≡ Some d
    → IsAtMost c (add_costs b d)
    → least_offer r (x ∷ y ∷ earlier) v ≡ least_offer r (y ∷ earlier) v

-- two runs of one rule from one start that have ended are equal
abbrev pub EndedRunsAreOne : Type 0 → Type 0
EndedRunsAreOne S =
    (r : Rule S) → NumbersTellStates r → (start : S) (one other : List (Taken S)) → IsRun r start one
    → IsRun r start other → IsEnded r one → IsEnded r other → one ≡ other

-- where states are the same exactly if they are equal, and links lead to these alone, what is made of them is
-- a run that ends
abbrev pub RunsAreMade : Type 0 → Type 0
RunsAreMade S =
    (r : Rule S) → ((u v : S) → r.is_same u v ≡ true → u ≡ v) → ((s : S) → r.is_same s s ≡ true) → (start : S)
    (all : List S) → IsCovered r all → IsEndedRun r start (run_of r all start)

-- and each run from that start that ends is it
abbrev pub EndedRunsAreMade : Type 0 → Type 0
EndedRunsAreMade S =
    (r : Rule S) → NumbersTellStates r → ((u v : S) → r.is_same u v ≡ true → u ≡ v)
    → ((s : S) → r.is_same s s ≡ true) → (start : S) (all : List S) → IsCovered r all → (run : List (Taken S))
    → IsEndedRun r start run → run ≡ run_of r all start
