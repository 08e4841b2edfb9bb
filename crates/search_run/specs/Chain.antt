-- Ways through the links of a rule, and what makes an estimate fit for a search.
use Rattle.std.specs.Prelude.{◌≡◌, true, Some}
use Rattle.root2_cost.specs.declared.Cost.{Cost}
use Rattle.root2_cost.specs.Order.{IsAtMost}
use Rattle.root2_cost.specs.Sums.{add_costs, no_cost}
use Rattle.search_run.specs.Run.{Rule}

-- links lead from s to t, at this cost in all, whatever each state on the way was come to from
pub data Chain {S : Type 0} (r : Rule S) : S → S → Cost → Type 0 where
  stays : (s : S) → Chain r s s no_cost
  goes_on : (s v t : S) (c d : Cost) → ((p : S) → r.link p s v ≡ Some c) → Chain r v t d
      → Chain r s t (add_costs c d)

-- the estimate never falls by more than a link costs, and is nothing at a goal; one state is one state
pub record IsConsistent {S : Type 0} (r : Rule S) : Type 0 where
  pub falls : (p u v : S) (c : Cost) → r.link p u v ≡ Some c
      → IsAtMost (r.estimate u) (add_costs c (r.estimate v))
  pub nothing : (s : S) → r.is_goal s ≡ true → r.estimate s ≡ no_cost
  pub one : (u v : S) → r.is_same u v ≡ true → u ≡ v
  pub itself : (s : S) → r.is_same s s ≡ true
