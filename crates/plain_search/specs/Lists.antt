-- The lists of a plain search: what it takes to see that its answer is right.
use Rattle.std.specs.Prelude.{◌≡◌, ◌*◌, if◌then◌else◌, refl, List, [], ◌∷◌, Option, Some, None, map}
use Rattle.std.specs.List.{Contains, filter_map, range_with_len}
use Rattle.std.specs.List.Sorted.{IsStrictlyIncreasing}
use Rattle.std.specs.Option.{option_and_then, option_map}
use Rattle.root2_cost.specs.declared.Cost.{Cost}
use Rattle.root2_cost.specs.Order.{IsLess, is_less}
use Rattle.root2_cost.specs.Sums.{add_costs}
use Rattle.grid_moves.specs.declared.Cell.{Cell}
use Rattle.grid_moves.specs.declared.Corner.TheVariants.{Never}
use Rattle.grid_moves.specs.Examples.{pillar}
use Rattle.grid_moves.specs.Grid.{GridData, cell_number, cell_numbered}
use Rattle.grid_moves.specs.Points.{estimate}
use Rattle.grid_moves.specs.Walk.{IsWalk}
pub use Rattle.cost_waves.specs.Begin.{IsLeastCost}
use Rattle.best_first.specs.declared.found.Found.{Found}
use Rattle.plain_search.specs.Costs.{least_cost}
use Rattle.plain_search.specs.declared.lists.Listed.{Listed}
use Rattle.plain_search.specs.declared.lists.Listed.TheVariants as listed

-- some walk leads from s to c
pub record HasWalk (g : GridData) (s c : Cell) : Type 0 where
  pub cells : List Cell
  pub walk : IsWalk g s c cells

-- a cell's cost and its octile estimate to t are together less than this
abbrev pub IsBelow : Cell → Cost → Cell → Cost → Type 0
IsBelow t bound c cost = IsLess (add_costs cost (estimate c t)) bound

-- closed cells are exactly those whose least cost from s and estimate to t are together below the least cost
-- from s to t, with that cost; their numbers ascend strictly
pub record AreClosed (g : GridData) (s t : Cell) (bound : Cost) (closed : List (Cell × Cost)) : Type 0 where
  pub only : (c : Cell) (cost : Cost) → Contains closed (c, cost)
      → IsLeastCost g s c cost × IsBelow t bound c cost
  pub all : (c : Cell) (cost : Cost) → IsLeastCost g s c cost → IsBelow t bound c cost
      → Contains closed (c, cost)
  pub ascend : IsStrictlyIncreasing (map (λ entry. cell_number g.width entry.0) closed)

-- reached cells are exactly those to which a walk leads from s; their numbers ascend strictly
pub record AreReached (g : GridData) (s : Cell) (reached : List Cell) : Type 0 where
  pub only : (c : Cell) → Contains reached c → HasWalk g s c
  pub all : (c : Cell) (cells : List Cell) → IsWalk g s c cells → Contains reached c
  pub ascend : IsStrictlyIncreasing (map (λ c. cell_number g.width c) reached)

-- what is made of the cells of a map, in the order of their numbers; of some cells nothing is
abbrev pub of_cells : {X : Type 0} → GridData → (Cell → Option X) → List X
of_cells g make = filter_map (λ n. make (cell_numbered g.width n)) (range_with_len 0 (g.height * g.width))

-- a cell with this cost, where the cost and the estimate to t are together below the bound
abbrev pub if_below : Cell → Cost → Cell → Cost → Option (Cell × Cost)
if_below t bound c cost = if is_less (add_costs cost (estimate c t)) bound then Some (c, cost) else None

-- a cell with its least cost from s, if that and the estimate to t are together below the bound
abbrev pub closed_at : GridData → Cell → Cell → Cost → Cell → Option (Cell × Cost)
closed_at g s t bound c = option_and_then (if_below t bound c) (least_cost g s c)

-- the closed cells, by their numbers
unfoldable pub closed_of : GridData → Cell → Cell → Cost → List (Cell × Cost)
closed_of g s t bound = of_cells g (closed_at g s t bound)

-- a cell, if a walk leads there from s
abbrev pub reached_at : GridData → Cell → Cell → Option Cell
reached_at g s c = option_map (λ cost. c) (least_cost g s c)

-- the reached cells, by their numbers
unfoldable pub reached_of : GridData → Cell → List Cell
reached_of g s = of_cells g (reached_at g s)

-- the answer without its lists
abbrev pub plain_of : Listed → Found
plain_of (listed.Found points cost closed taken) =
    record { walk = Some (record { points = points; cost = cost }); taken = taken }
plain_of (listed.None reached taken) = record { walk = None; taken = taken }

-- the lists of an answer are these, and right
abbrev pub AreLists : GridData → Cell → Cell → Listed → Type 0
AreLists g s t (listed.Found points cost closed taken) =
    (closed ≡ closed_of g s t cost) × AreClosed g s t cost closed
AreLists g s t (listed.None reached taken) = (reached ≡ reached_of g s) × AreReached g s reached

-- a worked row: round the pillar of `.../.@./...` three cells are closed
pub three_closed : closed_of (pillar Never) (record { x = 0; y = 0 }) (record { x = 2; y = 2 })
    (record { a = 4; b = 0 })
    ≡ (record { x = 0; y = 0 }, record { a = 0; b = 0 }) ∷ (record { x = 1; y = 0 }, record { a = 1; b = 0 })
    ∷ (record { x = 0; y = 1 }, record { a = 1; b = 0 }) ∷ []
unfolding closed_of least_cost
three_closed = refl
