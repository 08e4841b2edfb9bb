-- Points that stand for a walk between two cells, or for none.
use Rattle.std.specs.Prelude.{◌≡◌, ℕ, ◌-◌, ◌≤◌, Bool, true, false, List, ◌∷◌, length, slice_get, Option, Some}
use Rattle.std.specs.Prelude.{None, Result, Ok, Err, if◌then◌else◌, ◌↔◌}
use Rattle.root2_cost.specs.declared.Cost.{Cost}
use Rattle.grid_moves.specs.declared.Cell.{Cell}
use Rattle.grid_moves.specs.Grid.{GridData}
use Rattle.grid_moves.specs.Move.{is_same}
use Rattle.grid_moves.specs.Points.{unfolding_of}
use Rattle.grid_moves.specs.Walk.{IsWalk, cost_of}
use Rattle.path_points.specs.declared.checking.BadAt.{BadAt}
use Rattle.path_points.specs.Checked.{IsFirstBad, IsShortWalk, most_steps, points_answer}

-- there is such a point, and it is this cell
abbrev pub is_at : Cell → Option Cell → Bool
is_at c None = false
is_at c (Some p) = is_same p c

-- the first point is this cell
abbrev pub begins_at : Cell → List Cell → Bool
begins_at s points = is_at s (slice_get points 0)

-- the last point is this cell
abbrev pub ends_at : Cell → List Cell → Bool
ends_at t points = is_at t (slice_get points (length points - 1))

-- the points unfold to a walk from s to t of this cost and of at most 2^24 steps
pub record IsRightWalk (g : GridData) (s t : Cell) (cost : Cost) (points : List Cell) : Type 0 where
  pub cells : List Cell
  pub unfolds : unfolding_of points ≡ Some (s ∷ cells)
  pub walk : IsWalk g s t cells
  pub short : length cells ≤ most_steps
  pub priced : cost_of (s ∷ cells) ≡ cost

-- points, counted from 0, are no walk from s to t of at most 2^24 steps, and the number tells it: 0 where the
-- first point is not the start; else that of the first later point to which no legal run of at least one step
-- leads from the point before, or that brings the steps above 2^24; else the number of points, where the last
-- one is not the goal
pub data IsBadPoint (g : GridData) (s t : Cell) (points : List Cell) : ℕ → Type 0 where
  elsewhere : begins_at s points ≡ false → IsBadPoint g s t points 0
  broken : {i : ℕ} → begins_at s points ≡ true → IsFirstBad g points i → IsBadPoint g s t points i
  short_of : (paid : Cost) → begins_at s points ≡ true → IsShortWalk g points paid → ends_at t points ≡ false
      → IsBadPoint g s t points (length points)

-- an answer is right: the points stand for a walk from s to t of this cost, or for none,
-- which the number tells
abbrev pub IsWalkAnswer : GridData → Cell → Cell → List Cell → Result Cost ℕ → Type 0
IsWalkAnswer g s t points (Ok cost) = IsRightWalk g s t cost points
IsWalkAnswer g s t points (Err i) = IsBadPoint g s t points i

-- what so many points come to that begin at the start, by whether they end at the goal
abbrev pub ended_answer : Result Cost BadAt → ℕ → Bool → Result Cost ℕ
ended_answer (Err bad) count ends = Err bad.0
ended_answer (Ok cost) count true = Ok cost
ended_answer (Ok cost) count false = Err count

-- what points come to between s and t: the cost of the walk that they stand for, or the number that tells
-- that they stand for none
abbrev pub walk_answer : GridData → Cell → Cell → List Cell → Result Cost ℕ
walk_answer g s t points = if begins_at s points
    then ended_answer (points_answer g points) (length points) (ends_at t points) else Err 0

-- this is right, and no other answer is
abbrev pub WalksAreAnswered : Type 0
WalksAreAnswered = (g : GridData) (s t : Cell) (points : List Cell) (answer : Result Cost ℕ)
    → IsWalkAnswer g s t points answer ↔ (walk_answer g s t points ≡ answer)
