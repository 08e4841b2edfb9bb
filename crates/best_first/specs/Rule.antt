-- The rules of searches on a map: they differ in their links alone.
use Rattle.std.specs.Prelude.{◌≡◌, ℕ, ◌+◌, ◌<◌, ◌≤◌, ◌^◌, Bool, true, false, List, Option, Some}
use Rattle.root2_cost.specs.declared.Cost.{Cost}
use Rattle.grid_moves.specs.declared.Cell.{Cell}
use Rattle.grid_moves.specs.Move.{is_same}
use Rattle.grid_moves.specs.Points.{estimate}
use Rattle.search_run.specs.Run.{Rule, Taken, IsIn, IsRun}
use Rattle.best_first.specs.declared.state.State.{State}
use Rattle.best_first.specs.State.{is_same_state, state_number, start_at}

-- the links of a search, and what its nodes tell of their parents
pub record Links : Type 0 where
  -- what it costs to go on from the second state to the third, where the search may, if it came to the second
  -- from the first
  pub step : State → State → State → Option Cost
  -- whether what stands in a node's place, the second, may stand there for a link from the first state: where
  -- a cell has one state, the arrival in a place is no part of the state, and may tell of the parent
  pub led : State → State → Bool
  -- the second state, with how it was come to from the first: as this it is printed
  pub arrived : State → State → State

-- the rule of a search for a goal, on a map of this width, over these links
abbrev pub search_rule : ℕ → Cell → Links → Rule State
search_rule width goal link = record {
  is_same = is_same_state;
  number = state_number width;
  estimate = λ s. estimate s.cell goal;
  is_goal = λ s. is_same s.cell goal;
  link = link.step;
}

-- links on a map of these sides: each leads to another cell of the map, and costs the octile distance; a
-- start may stand in its own place
pub record AreLinks (width height : ℕ) (link : Links) : Type 0 where
  pub lands : (p u v : State) (c : Cost) → link.step p u v ≡ Some c → (v.cell.x < width) × (v.cell.y < height)
  pub moves : (p u v : State) (c : Cost) → link.step p u v ≡ Some c → is_same u.cell v.cell ≡ false
  pub starts : (c : Cell) → link.led (start_at c) (start_at c) ≡ true
  pub priced : (p u v : State) (c : Cost) → link.step p u v ≡ Some c → c ≡ estimate u.cell v.cell

-- no state is taken at a cost of more than 2^28 moves
abbrev pub HasFewMoves : Rule State → State → Type 0
HasFewMoves r start =
    (run : List (Taken State)) (u : Taken State) → IsRun r start run → IsIn u run
    → u.cost.a + u.cost.b ≤ 2 ^ 28

-- the cell lies on a map of these sides
abbrev pub LiesOn : ℕ → ℕ → Cell → Type 0
LiesOn width height c = (c.x < width) × (c.y < height)

-- a search for a goal is posed on a map: sides of at most 4096, start and goal on the map, and links as above
pub record IsPosed (width height : ℕ) (start goal : Cell) (link : Links) : Type 0 where
  pub narrow : width ≤ 4096
  pub low : height ≤ 4096
  pub start_on : LiesOn width height start
  pub goal_on : LiesOn width height goal
  pub links : AreLinks width height link

-- and takes few moves
pub record IsSearch (width height : ℕ) (start goal : Cell) (link : Links) : Type 0 where
  pub posed : IsPosed width height start goal link
  pub few : HasFewMoves (search_rule width goal link) (start_at start)
