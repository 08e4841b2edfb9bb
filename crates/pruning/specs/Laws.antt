-- What holds of all grids: pruning loses no least walk, and first stops are computed.
use Rattle.std.specs.Prelude.{◌≡◌, IsTrue, Bool, ℕ, List, ◌∷◌, map, Option, is_some, nat_le}
use Rattle.root2_cost.specs.declared.Cost.{Cost}
use Rattle.root2_cost.specs.Order.{IsAtMost}
use Rattle.grid_moves.specs.declared.Cell.{Cell}
use Rattle.grid_moves.specs.declared.Dir.{Dir}
use Rattle.grid_moves.specs.Grid.{GridData, is_free}
use Rattle.grid_moves.specs.Walk.{IsWalk, cost_of}
use Rattle.grid_moves.specs.Reply.{StandsForWalk}
use Rattle.pruning.specs.Marked.{run_end, IsMarked}
use Rattle.pruning.specs.Stop.{IsStop, IsFirstStop, IsFirstMark}
use Rattle.pruning.specs.First.{is_marked, is_stop, first_stop, first_mark, run_length}
use Rattle.pruning.specs.Canonical.{IsCanonicalWalk}
use Rattle.pruning.specs.Chain.{State, start_state, IsChain, last_state}

-- a canonical walk from s to t that costs no more than s followed by these cells
pub record HasCanonicalWalk (g : GridData) (s t : Cell) (cells : List Cell) : Type 0 where
  pub others : List Cell
  pub canonical : IsCanonicalWalk g s t others
  pub no_more : IsAtMost (cost_of (s ∷ others)) (cost_of (s ∷ cells))

-- for every walk there is a canonical walk of no greater cost
abbrev pub CanonicalWalksSuffice : Type 0
CanonicalWalksSuffice = (g : GridData) (s t : Cell) (cells : List Cell) → IsWalk g s t cells
    → HasCanonicalWalk g s t cells

-- a chain of first stops, for goal t, from s to t's cell, that costs no more than s followed by these cells
pub record HasChain (g : GridData) (s t : Cell) (cells : List Cell) : Type 0 where
  pub states : List State
  pub cost : Cost
  pub chain : IsChain g t (start_state s) states cost
  pub ends : (last_state (start_state s) states).cell ≡ t
  pub no_more : IsAtMost cost (cost_of (s ∷ cells))

-- for every canonical walk there is a chain of no greater cost
abbrev pub ChainsSuffice : Type 0
ChainsSuffice = (g : GridData) (s t : Cell) (cells : List Cell) → IsCanonicalWalk g s t cells
    → HasChain g s t cells

-- the cells of a chain from s are points of a walk of its cost
abbrev pub ChainsAreWalks : Type 0
ChainsAreWalks = (g : GridData) (goal s : Cell) (states : List State) (cost : Cost)
    → IsTrue (is_free g s) → IsChain g goal (start_state s) states cost
    → StandsForWalk g s (last_state (start_state s) states).cell (s ∷ map (λ u. u.cell) states) cost

-- a test tells a fact: it holds exactly where the fact does
pub record Tells (test : Bool) (fact : Type 0) : Type 0 where
  pub sound : IsTrue test → fact
  pub complete : fact → IsTrue test

-- marks and stops are decided by tests
abbrev pub MarksAreDecided : Type 0
MarksAreDecided = (g : GridData) (x : Cell) (d : Dir) → Tells (is_marked g x d) (IsMarked g x d)

abbrev pub StopsAreDecided : Type 0
StopsAreDecided = (g : GridData) (goal : Cell) (d : Dir) (v : Cell)
    → Tells (is_stop g goal d v) (IsStop g goal d v)

-- the first stop that is computed is one
abbrev pub FirstStopIsFirst : Type 0
FirstStopIsFirst = (g : GridData) (goal x : Cell) (d : Dir) → IsFirstStop g goal x d (first_stop g goal x d)

-- and there is no other
abbrev pub OneFirstStop : Type 0
OneFirstStop = (g : GridData) (goal x : Cell) (d : Dir) (answer : Option ℕ) → IsFirstStop g goal x d answer
    → answer ≡ first_stop g goal x d

-- likewise of first marks
abbrev pub FirstMarkIsFirst : Type 0
FirstMarkIsFirst = (g : GridData) (x : Cell) (d : Dir) → IsFirstMark g x d (first_mark g x d)

abbrev pub OneFirstMark : Type 0
OneFirstMark = (g : GridData) (x : Cell) (d : Dir) (answer : Option ℕ) → IsFirstMark g x d answer
    → answer ≡ first_mark g x d

-- so many moves are legal, one after the other, as the length of the run says
abbrev pub RunLengthIsExact : Type 0
RunLengthIsExact = (g : GridData) (x : Cell) (d : Dir) (k : ℕ)
    → is_some (run_end g d k x) ≡ nat_le k (run_length g x d)
