-- One state for each cell: what a search has come to that keeps one arrival at each cell. Which of equal ones
-- it keeps is left open; that a search takes cells in such an order that its run ends right is shown of its
-- run. Harabor and Grastien, AAAI 2011, have one node for each cell; as far as we know this was not proved by
-- machine before.
use Rattle.std.specs.Prelude.{◌≡◌, ◌≢◌, ◌≤◌, ℕ, Bool, true, IsTrue, List, [], ◌∷◌, Some}
use Rattle.root2_cost.specs.declared.Cost.{Cost}
use Rattle.root2_cost.specs.Order.{IsAtMost}
use Rattle.root2_cost.specs.Sums.{add_costs, no_cost}
use Rattle.grid_moves.specs.declared.Cell.{Cell}
use Rattle.grid_moves.specs.declared.Dir.{Dir}
use Rattle.grid_moves.specs.Grid.{GridData, is_free}
use Rattle.grid_moves.specs.Least.{NoneBelow, IsLeast}
use Rattle.grid_moves.specs.Walk.{IsWalk, IsLeastWalk, cost_of}
use Rattle.pruning.specs.declared.Arrival.TheVariants.{By}
use Rattle.pruning.specs.Allowed.{is_allowed}
use Rattle.pruning.specs.Marked.{run_end}
use Rattle.pruning.specs.Stop.{StopsAfter}
use Rattle.pruning.specs.Chain.{State, start_state, run_cost, IsJump}

-- a state that was come to, and at what cost
pub record Reached : Type 0 where
  pub state : State
  pub cost : Cost

-- it is one of these
pub data IsOneOf (u : Reached) : List Reached → Type 0 where
  here : (earlier : List Reached) → IsOneOf u (u ∷ earlier)
  there : (x : Reached) (earlier : List Reached) → IsOneOf u earlier → IsOneOf u (x ∷ earlier)

-- the jump from u leads to x, at its cost behind that of u
pub record LeadsTo (g : GridData) (goal : Cell) (u x : Reached) : Type 0 where
  pub dir : Dir
  pub moves : ℕ
  pub jump : IsJump g goal u.state x.state dir moves
  pub priced : x.cost ≡ add_costs u.cost (run_cost dir moves)

-- from the state s, k moves in the allowed direction d lead to the cell of u, and no stop lies before it: all
-- of a jump or a first part, or moves where there is none
pub record IsHop (g : GridData) (goal : Cell) (s u : State) (d : Dir) (k : ℕ) : Type 0 where
  pub allowed : IsTrue (is_allowed g s.cell s.arrival d)
  pub some : 1 ≤ k
  pub no_stop_before : NoneBelow (StopsAfter g goal s.cell d) 1 k
  pub reached : run_end g d k s.cell ≡ Some u.cell
  pub arrives : u.arrival ≡ By d

-- such moves lead from u to x, at their cost behind that of u
pub record HopsTo (g : GridData) (goal : Cell) (u x : Reached) : Type 0 where
  pub dir : Dir
  pub moves : ℕ
  pub hop : IsHop g goal u.state x.state dir moves
  pub priced : x.cost ≡ add_costs u.cost (run_cost dir moves)

-- these were come to from s, latest first: the start, and then each by such moves from an earlier one
pub data AreReached (g : GridData) (goal s : Cell) : List Reached → Type 0 where
  begun : AreReached g goal s (record { state = start_state s; cost = no_cost } ∷ [])
  further : (x u : Reached) (earlier : List Reached) → AreReached g goal s earlier → IsOneOf u earlier
      → HopsTo g goal u x → AreReached g goal s (x ∷ earlier)

-- the cell is among them, at no more than this cost
pub record IsReachedAt (all : List Reached) (v : Cell) (bound : Cost) : Type 0 where
  pub by : Reached
  pub member : IsOneOf by all
  pub cell : by.state.cell ≡ v
  pub no_more : IsAtMost by.cost bound

-- where a search goes on to, from what it came to, in a direction and by so many moves
abbrev pub Stops : Type 0
Stops = Reached → Dir → ℕ → Bool

-- by at most k moves in d it goes on from u
pub record GoesOn (stops : Stops) (u : Reached) (d : Dir) (k : ℕ) : Type 0 where
  pub moves : ℕ
  pub some : 1 ≤ moves
  pub up_to : moves ≤ k
  pub stops_there : IsTrue (stops u d moves)

-- from u in an allowed direction with a first stop it goes on to that or to a cell before it
abbrev pub PassesNoStop : GridData → Cell → Stops → Reached → Type 0
PassesNoStop g goal stops u = (d : Dir) (k : ℕ) → IsTrue (is_allowed g u.state.cell u.state.arrival d)
    → IsLeast (StopsAfter g goal u.state.cell d) 1 k → GoesOn stops u d k

-- one of them goes on to a cell that is not among them at no more than it costs that way, and from which a
-- walk leads on to t, at no more than this in all
pub record OffersMore (g : GridData) (t : Cell) (stops : Stops) (all : List Reached) (bound : Cost)
    : Type 0 where
  pub by : Reached
  pub member : IsOneOf by all
  pub offered : Reached
  pub hops : HopsTo g t by offered
  pub stops_there : IsTrue (stops by hops.dir hops.moves)
  pub fresh : ¬ IsReachedAt all offered.state.cell offered.cost
  pub cells : List Cell
  pub walk : IsWalk g offered.state.cell t cells
  pub no_more : IsAtMost (add_costs offered.cost (cost_of (offered.state.cell ∷ cells))) bound

-- as long as the goal is not among them, one of them offers a cell of a least walk that none has at as little
abbrev pub OneStateSuffices : Type 0
OneStateSuffices = (g : GridData) (s t : Cell) (stops : Stops) (all : List Reached) (cells : List Cell)
    → is_free g s ≡ true → AreReached g t s all
    → ((u : Reached) → IsOneOf u all → PassesNoStop g t stops u)
    → ((u : Reached) → IsOneOf u all → u.state.cell ≢ t)
    → IsLeastWalk g s t cells → OffersMore g t stops all (cost_of (s ∷ cells))
