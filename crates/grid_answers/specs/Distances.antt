-- What `costs` prints.
use Rattle.std.specs.Prelude.{◌≡◌, ℕ, zero, suc, ◌-◌, List, [], ◌∷◌, ◌++◌, codes, decimal, map}
use Rattle.std.specs.Prelude.{Option, Some, None, refl}
use Rattle.std.specs.List.{range_with_len}
use Rattle.root2_cost.specs.declared.Cost.{Cost}
use Rattle.grid_moves.specs.declared.Cell.{Cell}
use Rattle.grid_moves.specs.Grid.{GridData}
use Rattle.grid_moves.specs.Layers.{Layers}
use Rattle.plain_search.specs.Costs.{least_cost}
use Rattle.grid_answers.specs.OfCell.{of_cell}

-- `A,B`, or `-` where there is no cost
abbrev pub cost_field : Option Cost → List ℕ
cost_field None = codes "-"
cost_field (Some cost) = decimal cost.a ++ codes "," ++ decimal cost.b

-- the fields of a row from the first to this one, parted by one space
abbrev pub fields_to : (ℕ → Option Cost) → ℕ → List ℕ
fields_to costs zero = cost_field (costs 0)
fields_to costs (suc n) = fields_to costs n ++ codes " " ++ cost_field (costs (suc n))

-- the line of a row of so many cells, by the cost of each
abbrev pub line_of_costs : ℕ → (ℕ → Option Cost) → List ℕ
line_of_costs width costs = fields_to costs (width - 1) ++ codes "\n"

-- the line of a row: for each of its cells what a least walk from s to it costs, or `-`,
-- where none leads there
abbrev pub row_line : GridData → Cell → ℕ → List ℕ
row_line g s y = line_of_costs g.width (λ x. least_cost g s (record { x = x; y = y }))

-- the lines of all rows, from the upper one
abbrev pub cost_lines : GridData → Cell → List (List ℕ)
cost_lines g s = map (row_line g s) (range_with_len 0 g.height)

-- what is printed of the costs from s: the lines of all rows, on the grid of the cell, or why there are none
unfoldable pub costs_answer : Layers → Cell → List (List ℕ)
costs_answer ls s = of_cell ls s (λ line. line ∷ []) (λ g. cost_lines g s)

-- a row of two cells: its own, and one to which no walk leads
abbrev two_costs : ℕ → Option Cost
two_costs zero = Some (record { a = 0; b = 0 })
two_costs (suc n) = None

pub one_dash : line_of_costs 2 two_costs
    ≡ decimal 0 ++ codes "," ++ decimal 0 ++ codes " " ++ codes "-" ++ codes "\n"
one_dash = refl
