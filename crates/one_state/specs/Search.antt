-- Searches over jumps that keep one state for each cell, as lists of what they took: any estimate, any stops
-- up to the first one, any ties. Pruning and first stops are those of Harabor and Grastien (AAAI 2011; SoCS
-- 2012 where no corner is cut); their paper and most programs keep one node for each cell, and differ in all
-- that is left open.
use Rattle.std.specs.Prelude.{◌≡◌, ◌∷◌, ◌++◌, ℕ, true, IsTrue, List, [], if◌then◌else◌}
use Rattle.root2_cost.specs.declared.Cost.{Cost}
use Rattle.root2_cost.specs.declared.Signed.{Signed}
use Rattle.root2_cost.specs.Signed.{signed_of, add_signed, IsSignedAtMost}
use Rattle.root2_cost.specs.Sums.{add_costs, no_cost}
use Rattle.grid_moves.specs.declared.Cell.{Cell}
use Rattle.grid_moves.specs.declared.Dir.{Dir}
use Rattle.grid_moves.specs.Grid.{GridData, is_free}
use Rattle.grid_moves.specs.Move.{is_same}
use Rattle.pruning.specs.Chain.{State, start_state, run_cost}
use Rattle.pruning.specs.Explored.{Reached, Stops, PassesNoStop, IsHop}
use Rattle.one_state.specs.Estimate.{Estimate, IsConsistent}

-- what a search goes by: after how many moves of a legal run it stops is left to it
pub record Search : Type 0 where
  pub grid : GridData
  pub start : Cell
  pub goal : Cell
  pub estimate : Estimate
  pub stops : Stops

-- it starts on a free cell, its estimate is consistent, and in an allowed direction with a first stop (jump
-- point) it stops there or before
pub record IsSound (p : Search) : Type 0 where
  pub free : is_free p.grid p.start ≡ true
  pub consistent : IsConsistent p.grid p.goal p.estimate
  pub stops_in_time : (u : Reached) → PassesNoStop p.grid p.goal p.stops u

-- a cell that was taken: with how it was come to, at which cost, and from which cell;
-- the start has itself there
pub record Taken : Type 0 where
  pub state : State
  pub cost : Cost
  pub parent : Cell

-- the start, as it is taken
abbrev pub begins : Search → Taken
begins p = record { state = start_state p.start; cost = no_cost; parent = p.start }

-- without its parent
abbrev pub as_reached : Taken → Reached
as_reached u = record { state = u.state; cost = u.cost }

-- u offers x: in an allowed direction, by moves before whose end no stop lies,
-- and after which the search stops
pub record Offers (p : Search) (u x : Taken) : Type 0 where
  pub dir : Dir
  pub moves : ℕ
  pub hop : IsHop p.grid p.goal u.state x.state dir moves
  pub stops_there : IsTrue (p.stops (as_reached u) dir moves)
  pub priced : x.cost ≡ add_costs u.cost (run_cost dir moves)
  pub parent : x.parent ≡ u.state.cell

-- u is one of these
pub data IsIn (u : Taken) : List Taken → Type 0 where
  here : (earlier : List Taken) → IsIn u (u ∷ earlier)
  there : (x : Taken) (earlier : List Taken) → IsIn u earlier → IsIn u (x ∷ earlier)

-- the cell is that of one of these
pub record HasCell (taken : List Taken) (v : Cell) : Type 0 where
  pub by : Taken
  pub member : IsIn by taken
  pub is : by.state.cell ≡ v

-- one of these offers x, whose cell none of them has
pub record IsOffered (p : Search) (taken : List Taken) (x : Taken) : Type 0 where
  pub by : Taken
  pub member : IsIn by taken
  pub offers : Offers p by x
  pub fresh : ¬ HasCell taken x.state.cell

-- its cost, and the estimate of what is left
abbrev pub sum_of : Search → Taken → Signed
sum_of p x = add_signed (signed_of x.cost) (p.estimate x.state.cell)

-- x is offered, and nothing is offered at a lesser sum
pub record IsNext (p : Search) (taken : List Taken) (x : Taken) : Type 0 where
  pub offered : IsOffered p taken x
  pub least : (y : Taken) → IsOffered p taken y → IsSignedAtMost (sum_of p x) (sum_of p y)

-- these were taken, latest first: the start, and then, as long as the goal's cell was not taken, one of those
-- that were offered at the least sum, whichever
pub data IsRun (p : Search) : List Taken → Type 0 where
  begun : IsRun p (begins p ∷ [])
  further : (x : Taken) (earlier : List Taken) → IsRun p earlier → ¬ HasCell earlier p.goal
      → IsNext p earlier x → IsRun p (x ∷ earlier)

-- the cells along the parents, from the start to c
abbrev pub points_to : List Taken → Cell → List Cell
points_to [] c = []
points_to (x ∷ earlier) c =
    if is_same x.state.cell c then points_to earlier x.parent ++ (c ∷ []) else points_to earlier c
