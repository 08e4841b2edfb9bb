-- The walk of first moves.
use Rattle.std.specs.Prelude.{◌≡◌, ◌+◌, ℕ, zero, suc, true, refl, codes, List, [], ◌∷◌, Option, Some, None}
use Rattle.std.specs.Prelude.{◌⊎◌, MatchOption}
use Rattle.std.specs.Option.{option_and_then, option_map, option_map_or}
use Rattle.root2_cost.specs.declared.Cost.{Cost}
use Rattle.grid_moves.specs.declared.Cell.{Cell}
use Rattle.grid_moves.specs.declared.Corner.TheVariants.{Never}
use Rattle.grid_moves.specs.declared.Dir.{Dir}
use Rattle.grid_moves.specs.Grid.{GridData, grid_of, is_free}
use Rattle.grid_moves.specs.Move.{legal_ahead}
use Rattle.grid_moves.specs.Walk.{IsLeastWalk, NoWalk, cost_of}
use Rattle.path_points.specs.declared.points.Walk.{Walk}
use Rattle.path_points.specs.Corners.{corners}
use Rattle.plain_search.specs.Costs.{begins, least_cost}
use Rattle.plain_search.specs.One.{IsTheOne}
use Rattle.first_moves.specs.First.{IsFirstMove, first_move}

-- the first move from s to t leads to v
pub record LeadsTo (g : GridData) (s t v : Cell) : Type 0 where
  pub dir : Dir
  pub first : IsFirstMove g s t (Some dir)
  pub ahead : legal_ahead g s dir ≡ Some v

-- the cell to which the first move leads, or none, where there is none
abbrev pub IsNext : GridData → Cell → Cell → Option Cell → Type 0
IsNext g s t None = (s ≡ t) ⊎ NoWalk g s t
IsNext g s t (Some v) = LeadsTo g s t v

-- on the way from s over these cells each move is the first move to t
abbrev pub AreFirst : GridData → Cell → Cell → List Cell → Type 0
AreFirst g t s [] = Unit {0}
AreFirst g t s (v ∷ cells) = LeadsTo g s t v × AreFirst g t v cells

-- the walk from s to t of first moves: it is a least walk, the points are its first cell, its last cell and
-- its turns, and the cost is its cost
pub record IsFollowed (g : GridData) (s t : Cell) (points : List Cell) (cost : Cost) : Type 0 where
  pub cells : List Cell
  pub first : AreFirst g t s cells
  pub least : IsLeastWalk g s t cells
  pub turns : points ≡ corners (s ∷ cells)
  pub priced : cost_of (s ∷ cells) ≡ cost

-- the walk of first moves, or that no walk leads from s to t
abbrev pub IsLedOrNone : GridData → Cell → Cell → Option Walk → Type 0
IsLedOrNone g s t answer = MatchOption answer (NoWalk g s t) (λ w. IsFollowed g s t w.points w.cost)

-- the cell to which the first move leads, if there is one
abbrev pub next_cell : GridData → Cell → Cell → Option Cell
next_cell g s t = option_and_then (legal_ahead g s) (first_move g s t)

-- the cells behind s on the way of first moves to t, at most so many
abbrev pub led_cells : GridData → Cell → ℕ → Cell → List Cell
led_cells g t zero s = []
led_cells g t (suc n) s = option_map_or (λ (v : Cell). v ∷ led_cells g t n v) (next_cell g s t) []

-- so many of them as there are moves in a cost
abbrev pub led_at : GridData → Cell → Cell → Cost → Walk
led_at g s t cost = record { points = corners (s ∷ led_cells g t (cost.a + cost.b) s); cost = cost }

-- the walk of first moves from a free cell s to t, or none where no walk leads there
unfoldable pub led_walk : GridData → Cell → Cell → Option Walk
led_walk g s t = option_map (led_at g s t) (least_cost g s t)

-- from a free cell to each cell this is that walk, and nothing else is
abbrev pub LedWalksAre : (GridData → Cell → Cell → Option Walk) → Type 0
LedWalksAre led =
    (g : GridData) (s t : Cell) → is_free g s ≡ true → IsTheOne (IsLedOrNone g s t) (led g s t)

-- on the map `...` it goes straight from left to right
pub straight_on : led_walk (grid_of 3 1 (codes "...") Never) (record { x = 0; y = 0 }) (record { x = 2; y = 0 })
    ≡ Some (record {
      points = record { x = 0; y = 0 } ∷ record { x = 2; y = 0 } ∷ [];
      cost = record { a = 2; b = 0 };
    })
unfolding led_walk begins least_cost
straight_on = refl
