-- The run of a best-first search, as a list of taken states and no more: no open list, no index.
-- A* after Hart, Nilsson and Raphael (1968); the order of ties is this project's.
use Rattle.std.specs.Prelude.{◌≡◌, ℕ, Bool, false, nat_lt, nat_eq, ◌&&◌, ◌||◌, List, [], ◌∷◌, ◌++◌}
use Rattle.std.specs.Prelude.{Option, Some, None, if◌then◌else◌}
use Rattle.root2_cost.specs.declared.Cost.{Cost}
use Rattle.root2_cost.specs.Order.{is_less}
use Rattle.root2_cost.specs.Sums.{add_costs, no_cost}

-- what a search goes by
pub record Rule (S : Type 0) : Type 0 where
  -- whether two states are one state
  pub is_same : S → S → Bool
  -- among equal sums the least number goes first
  pub number : S → ℕ
  -- the estimate of what is left to go
  pub estimate : S → Cost
  -- whether the search ends at this state
  pub is_goal : S → Bool
  -- what it costs to go on from the second state to the third, where the search may, if it came to the second
  -- from the first; the start has itself there
  pub link : S → S → S → Option Cost

-- a state that was taken, its cost, and the state that it was reached from; the start has itself there
pub record Taken (S : Type 0) : Type 0 where
  pub state : S
  pub cost : Cost
  pub parent : S

-- a cost at which a state may be reached, and the taken state that offers it
pub record Offer (S : Type 0) : Type 0 where
  pub cost : Cost
  pub from : S

-- going on from a taken state: its own cost, and that of the link
abbrev pub offer_by : {S : Type 0} → Taken S → Option Cost → Option (Offer S)
offer_by u None = None
offer_by u (Some c) = Some (record { cost = add_costs u.cost c; from = u.state })

-- what a taken state offers to a state; a goal offers nothing
abbrev pub offer : {S : Type 0} → Rule S → Taken S → S → Option (Offer S)
offer r u s = if r.is_goal u.state then None else offer_by u (r.link u.parent u.state s)

-- the lesser offer; the earlier one where they are equal
abbrev pub lesser : {S : Type 0} → Option (Offer S) → Option (Offer S) → Option (Offer S)
lesser None late = late
lesser (Some early) None = Some early
lesser (Some early) (Some late) = if is_less late.cost early.cost then Some late else Some early

-- the least of what the taken states, latest first, offer to a state, from the first that offers it
abbrev pub least_offer : {S : Type 0} → Rule S → List (Taken S) → S → Option (Offer S)
least_offer r [] s = None
least_offer r (u ∷ earlier) s = lesser (least_offer r earlier s) (offer r u s)

-- the state is among the taken ones
abbrev pub is_taken : {S : Type 0} → Rule S → List (Taken S) → S → Bool
is_taken r [] s = false
is_taken r (u ∷ earlier) s = r.is_same u.state s || is_taken r earlier s

-- a goal is among the taken states
abbrev pub has_goal : {S : Type 0} → Rule S → List (Taken S) → Bool
has_goal r [] = false
has_goal r (u ∷ earlier) = r.is_goal u.state || has_goal r earlier

-- the cost of the state and its estimate
abbrev pub sum_at : {S : Type 0} → Rule S → S → Cost → Cost
sum_at r s c = add_costs c (r.estimate s)

-- s at cost c goes before t at cost d: by a lesser sum, or where the sums are equal by a lesser number
abbrev pub goes_before : {S : Type 0} → Rule S → S → Cost → S → Cost → Bool
goes_before r s c t d =
    is_less (sum_at r s c) (sum_at r t d)
    || (nat_eq (sum_at r s c).a (sum_at r t d).a && nat_eq (sum_at r s c).b (sum_at r t d).b
    && nat_lt (r.number s) (r.number t))

-- x is taken next: it waits, at its least offer, and no state that waits goes before it
pub record IsNext {S : Type 0} (r : Rule S) (earlier : List (Taken S)) (x : Taken S) : Type 0 where
  pub waits : is_taken r earlier x.state ≡ false
  pub offered : least_offer r earlier x.state ≡ Some (record { cost = x.cost; from = x.parent })
  pub first : (s : S) (o : Offer S) → is_taken r earlier s ≡ false → least_offer r earlier s ≡ Some o
      → goes_before r s o.cost x.state x.cost ≡ false

-- the states taken so far, latest first: the start at no cost, and then, until a goal is taken, the next
abbrev pub IsRun : {S : Type 0} → Rule S → S → List (Taken S) → Type 0
IsRun r start [] = ⊥
IsRun r start (x ∷ []) = x ≡ record { state = start; cost = no_cost; parent = start }
IsRun r start (x ∷ y ∷ earlier) =
    IsRun r start (y ∷ earlier) × (has_goal r (y ∷ earlier) ≡ false) × IsNext r (y ∷ earlier) x

-- no state waits
abbrev pub NoneWaits : {S : Type 0} → Rule S → List (Taken S) → Type 0
NoneWaits {S} r run = (s : S) → is_taken r run s ≡ false → least_offer r run s ≡ None

-- the states from the start along the parents to s
abbrev pub way_to : {S : Type 0} → Rule S → List (Taken S) → S → List S
way_to r [] s = []
way_to r (x ∷ earlier) s =
    if r.is_same x.state s then way_to r earlier x.parent ++ (s ∷ []) else way_to r earlier s

-- u is one of the taken states
pub data IsIn {S : Type 0} (u : Taken S) : List (Taken S) → Type 0 where
  here : (earlier : List (Taken S)) → IsIn u (u ∷ earlier)
  there : (x : Taken S) (earlier : List (Taken S)) → IsIn u earlier → IsIn u (x ∷ earlier)
