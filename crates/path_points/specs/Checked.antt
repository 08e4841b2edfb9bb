-- Points that stand for a walk of few steps, and the first bad point where they don't.
use Rattle.std.specs.Prelude.{◌≡◌, ℕ, zero, suc, ◌+◌, ◌^◌, ◌≤◌, Bool, true, false, nat_le, not, ◌&&◌, IsTrue}
use Rattle.std.specs.Prelude.{refl, List, [], ◌∷◌, length, Option, Some, None, if◌then◌else◌, Result, Ok, Err}
use Rattle.std.specs.Prelude.{◌↔◌}
use Rattle.root2_cost.specs.declared.Cost.{Cost}
use Rattle.root2_cost.specs.Sums.{add_costs, no_cost}
use Rattle.grid_moves.specs.declared.Cell.{Cell}
use Rattle.grid_moves.specs.declared.Corner.TheVariants.{Never, One}
use Rattle.grid_moves.specs.Examples.{pillar}
use Rattle.grid_moves.specs.Grid.{GridData, is_free}
use Rattle.grid_moves.specs.Least.{IsLeast}
use Rattle.grid_moves.specs.Walk.{is_walk, cost_of}
use Rattle.grid_moves.specs.Points.{steps_between, are_lined, segment, unfolding_of}
use Rattle.path_points.specs.declared.checking.BadAt.{BadAt}

-- the most steps of a walk that is checked: as many as the largest map has cells
abbrev pub most_steps : ℕ
most_steps = 2 ^ 24

-- the cells of the run from u to v, after u
abbrev pub run : Cell → Cell → List Cell
run u v = segment (steps_between u v) u v

-- a legal run of at least one step: v lies on one of the eight lines from u, and each move is legal
abbrev pub is_legal_run : GridData → Cell → Cell → Bool
is_legal_run g u v = are_lined u v && is_walk g (u ∷ run u v)

-- it is legal, and takes the steps so far to at most 2^24
abbrev pub is_good_run : GridData → ℕ → Cell → Cell → Bool
is_good_run g steps u v = is_legal_run g u v && nat_le (steps + steps_between u v) most_steps

-- the cost of the good run from u to v, where there is one
abbrev pub good_cost : GridData → ℕ → Cell → Cell → Option Cost
good_cost g steps u v = if is_good_run g steps u v then Some (cost_of (u ∷ run u v)) else None

-- there is a first point, and it is free
abbrev pub starts_free : GridData → List Cell → Bool
starts_free g [] = false
starts_free g (p ∷ points) = is_free g p

-- no good run leads from point i to the one after it, where so many steps came before the first point
abbrev pub breaks_after : GridData → ℕ → List Cell → ℕ → Bool
breaks_after g steps [] i = false
breaks_after g steps (u ∷ []) i = false
breaks_after g steps (u ∷ v ∷ points) zero = not (is_good_run g steps u v)
breaks_after g steps (u ∷ v ∷ points) (suc i) = breaks_after g (steps + steps_between u v) (v ∷ points) i

-- point i is bad, where points are counted from 0: there is no free first one, or no good run leads to it
abbrev pub is_bad_at : GridData → List Cell → ℕ → Bool
is_bad_at g points zero = not (starts_free g points)
is_bad_at g points (suc i) = breaks_after g 0 points i

-- point i is the first bad one
abbrev pub IsFirstBad : GridData → List Cell → ℕ → Type 0
IsFirstBad g points i = IsLeast (λ k. is_bad_at g points k ≡ true) 0 i

-- the points unfold to a walk of at most 2^24 steps, one fewer than cells, and the cost is that walk's
pub record IsShortWalk (g : GridData) (points : List Cell) (cost : Cost) : Type 0 where
  pub cells : List Cell
  pub unfolds : unfolding_of points ≡ Some cells
  pub walk : IsTrue (is_walk g cells)
  pub short : length cells ≤ most_steps + 1
  pub priced : cost_of cells ≡ cost

-- an answer is right: the points stand for a walk of this cost, or this one is the first bad one
abbrev pub IsPointsAnswer : GridData → List Cell → Result Cost BadAt → Type 0
IsPointsAnswer g points (Ok cost) = IsShortWalk g points cost
IsPointsAnswer g points (Err bad) = IsFirstBad g points bad.0

-- the answer that point i is bad
abbrev pub bad_at : ℕ → Result Cost BadAt
bad_at i = Err (record { 0 = i })

-- the steps of a walk of this cost
abbrev pub steps_of : Cost → ℕ
steps_of cost = cost.a + cost.b

-- the cost with that of the run from u to v
abbrev pub cost_after : Cost → Cell → Cell → Cost
cost_after cost u v = add_costs cost (cost_of (u ∷ run u v))

-- what the points after u come to, where u is point i and the walk to it costs this much
abbrev pub answer_from : GridData → ℕ → Cell → List Cell → Cost → Result Cost BadAt
answer_from g i u [] cost = Ok cost
answer_from g i u (v ∷ points) cost = if is_good_run g (steps_of cost) u v
    then answer_from g (i + 1) v points (cost_after cost u v) else bad_at (i + 1)

-- what points come to: the cost of the walk that they stand for, or the first bad one
abbrev pub points_answer : GridData → List Cell → Result Cost BadAt
points_answer g [] = bad_at 0
points_answer g (u ∷ points) = if is_free g u then answer_from g 0 u points no_cost else bad_at 0

-- this is right, and no other answer is
abbrev pub PointsAreAnswered : Type 0
PointsAreAnswered = (g : GridData) (points : List Cell) (answer : Result Cost BadAt)
    → IsPointsAnswer g points answer ↔ (points_answer g points ≡ answer)

-- on the map `.../.@./...`, along the upper row leads a legal run
pub along_the_row : is_legal_run (pillar Never) (record { x = 0; y = 0 }) (record { x = 2; y = 0 }) ≡ true
along_the_row = refl

-- through the pillar leads none
pub through_the_pillar : is_legal_run (pillar Never) (record { x = 0; y = 0 }) (record { x = 2; y = 2 })
    ≡ false
through_the_pillar = refl

-- past its corner leads one where one blocked cell may be passed
pub past_the_pillar : is_legal_run (pillar Never) (record { x = 1; y = 0 }) (record { x = 2; y = 1 }) ≡ false
past_the_pillar = refl

pub past_the_pillar-one : is_legal_run (pillar One) (record { x = 1; y = 0 }) (record { x = 2; y = 1 }) ≡ true
past_the_pillar-one = refl

-- no run leads from a cell to itself
pub no_step : is_legal_run (pillar Never) (record { x = 0; y = 0 }) (record { x = 0; y = 0 }) ≡ false
no_step = refl

-- past the corner the third point is bad, and the second is not
pub second_is_good : is_bad_at (pillar Never)
    (record { x = 0; y = 0 } ∷ record { x = 1; y = 0 } ∷ record { x = 2; y = 1 } ∷ []) 1 ≡ false
second_is_good = refl

pub third_is_bad : is_bad_at (pillar Never)
    (record { x = 0; y = 0 } ∷ record { x = 1; y = 0 } ∷ record { x = 2; y = 1 } ∷ []) 2 ≡ true
third_is_bad = refl

-- of no points, the first is bad
pub first_is_bad : is_bad_at (pillar Never) [] 0 ≡ true
first_is_bad = refl

-- round the pillar the points come to four straight moves; past its corner to the number of the third
pub round_the_pillar : points_answer (pillar Never)
    (record { x = 0; y = 0 } ∷ record { x = 2; y = 0 } ∷ record { x = 2; y = 2 } ∷ [])
    ≡ Ok (record { a = 4; b = 0 })
round_the_pillar = refl

pub third_is_named : points_answer (pillar Never)
    (record { x = 0; y = 0 } ∷ record { x = 1; y = 0 } ∷ record { x = 2; y = 1 } ∷ []) ≡ bad_at 2
third_is_named = refl
