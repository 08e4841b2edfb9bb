-- The least costs from one cell to all cells of a map,
-- and the moves with which least walks begin, as functions.
use Rattle.std.specs.Prelude.{◌≡◌, ◌*◌, ◌↔◌, ℕ, zero, suc, Bool, true, false, IsTrue, refl, codes, List}
use Rattle.std.specs.Prelude.{Option, Some, None, if◌then◌else◌, length, map, slice_get}
use Rattle.std.specs.List.{fold}
use Rattle.std.specs.Option.{option_and_then, option_map, option_map_or}
use Rattle.root2_cost.specs.declared.Cost.{Cost}
use Rattle.root2_cost.specs.Order.{is_less}
use Rattle.root2_cost.specs.Sums.{add_costs, is_same_cost, no_cost}
use Rattle.grid_moves.specs.declared.Cell.{Cell}
use Rattle.grid_moves.specs.declared.Corner.TheVariants.{Never}
use Rattle.grid_moves.specs.declared.Dir.{Dir}
use Rattle.grid_moves.specs.declared.Dir.TheVariants.{E, W}
use Rattle.grid_moves.specs.Grid.{GridData, cell_number, grid_of, is_free, is_inside}
use Rattle.grid_moves.specs.Move.{all_dirs, dir_cost, is_same, legal_ahead}
use Rattle.cost_waves.specs.Begin.{Begins}
use Rattle.plain_search.specs.One.{IsTheOne}
pub use Rattle.cost_waves.specs.Begin.{IsCostTo}

-- there are as many entries as cells, and each cell of the map has its own at the place of its number
pub record AreCostsToAll (g : GridData) (s : Cell) (costs : List (Option Cost)) : Type 0 where
  pub as_many : length costs ≡ g.height * g.width
  pub right : (c : Cell) (entry : Option Cost) → is_inside g c ≡ true
      → slice_get costs (cell_number g.width c) ≡ Some entry → IsCostTo g s c entry

-- the lesser of two costs, where there are two
abbrev pub lesser : Option Cost → Option Cost → Option Cost
lesser None other = other
lesser (Some p) None = Some p
lesser (Some p) (Some q) = if is_less q p then Some q else Some p

-- what a move from s in direction d costs with the way on from its end, where it is legal and one leads on
abbrev pub cost_over : GridData → Cell → (Cell → Option Cost) → Dir → Option Cost
cost_over g s from d =
    option_and_then (λ (v : Cell). option_map (add_costs (dir_cost d)) (from v)) (legal_ahead g s d)

-- what a least walk of at most so many moves from a free cell s to t costs, or nothing, where none leads
-- there
abbrev pub least_within : ℕ → GridData → Cell → Cell → Option Cost
least_within zero g s t = if is_same s t then Some no_cost else None
least_within (suc n) g s t = if is_same s t then Some no_cost
    else fold lesser None (map (cost_over g s (λ v. least_within n g v t)) all_dirs)

-- what a least walk from a free cell s to t costs, or nothing, where no walk leads there: a least walk has
-- fewer moves than the map has cells
unfoldable pub least_cost : GridData → Cell → Cell → Option Cost
least_cost g s t = least_within (g.height * g.width) g s t

-- from a free cell to each cell this is the cost, and nothing else is
abbrev pub LeastCostsAre : (GridData → Cell → Cell → Option Cost) → Type 0
LeastCostsAre cost = (g : GridData) (s t : Cell) → is_free g s ≡ true → IsTheOne (IsCostTo g s t) (cost g s t)

-- what is left to pay, before a move and after it, falls by what the move costs
abbrev pub falls_by : Cost → Option Cost → Option Cost → Bool
falls_by move None after = false
falls_by move (Some before) None = false
falls_by move (Some before) (Some after) = is_same_cost (add_costs after move) before

-- some least walk from u to t begins with a move in direction d
unfoldable pub begins : GridData → Cell → Cell → Dir → Bool
begins g u t d =
    option_map_or (λ (v : Cell). falls_by (dir_cost d) (least_cost g u t) (least_cost g v t))
    (legal_ahead g u d) false

-- from a free cell the test says exactly whether some least walk begins so
abbrev pub BeginsIs : (GridData → Cell → Cell → Dir → Bool) → Type 0
BeginsIs test = (g : GridData) (u t : Cell) (d : Dir) → is_free g u ≡ true
    → IsTrue (test g u t d) ↔ Begins g u t d

-- worked rows on the maps `...` and `.@.`: from left to right, and back from the middle
pub two_moves : least_cost (grid_of 3 1 (codes "...") Never) (record { x = 0; y = 0 }) (record { x = 2; y = 0 })
    ≡ Some (record { a = 2; b = 0 })
unfolding least_cost
two_moves = refl

pub past_no_wall : least_cost (grid_of 3 1 (codes ".@.") Never) (record { x = 0; y = 0 })
    (record { x = 2; y = 0 }) ≡ None
unfolding least_cost
past_no_wall = refl

pub begins_ahead : begins (grid_of 3 1 (codes "...") Never) (record { x = 1; y = 0 }) (record { x = 2; y = 0 }) E
    ≡ true
unfolding begins least_cost
begins_ahead = refl

pub begins_not_back : begins (grid_of 3 1 (codes "...") Never) (record { x = 1; y = 0 })
    (record { x = 2; y = 0 }) W ≡ false
unfolding begins least_cost
begins_not_back = refl
