-- How far the lines of costs have come, and what is written of them.
use Rattle.std.specs.Prelude.{◌≡◌, ℕ, nat_lt, ◌&&◌, if◌then◌else◌, List, map, Option, None}
use Rattle.root2_cost.specs.declared.Cost.{Cost}
use Rattle.cost_waves.specs.Stored.{WaveData, cost_at}
use Rattle.grid_moves.specs.declared.Cell.{Cell}
use Rattle.grid_moves.specs.Layers.{Layers}
use Rattle.line_work.specs.Sending.{IsText}
use Rattle.grid_answers.specs.Distances.{costs_answer, line_of_costs}
use Rattle.grid_answers.specs.declared.costs.CostLines.{CostLines}
use Rattle.grid_answers.specs.declared.costs.CostLines.TheVariants as output
use Rattle.grid_answers.specs.declared.costs.Distances.{Distances}

-- the cost that is stored for a cell, where it lies inside
abbrev pub cost_within : WaveData → Cell → Option Cost
cost_within w c = if nat_lt c.x w.width && nat_lt c.y w.height then cost_at w c else None

-- the costs of a row
abbrev pub row_costs : WaveData → ℕ → ℕ → Option Cost
row_costs w y x = cost_within w (record { x = x; y = y })

-- its line
abbrev pub printed_line : WaveData → ℕ → List ℕ
printed_line w y = line_of_costs w.width (row_costs w y)

-- the rows have these lines
pub record HavePrinted (first now : Distances) (rows : List ℕ) (lines : List (List ℕ)) : Type 0 where
  pub all : lines ≡ map (printed_line first.waves) rows
  pub same : now.waves ≡ first.waves

-- one line for each row, with status 0
pub record ArePrinted (first : Distances) (rows : List ℕ) (lines : List (List ℕ)) (status : ℕ) : Type 0 where
  pub all : lines ≡ map (printed_line first.waves) rows
  pub good : status ≡ 0

-- the whole output, and the status: a line for each row, or the line that says why there are none
abbrev pub AreWritten : CostLines → List (List ℕ) → ℕ → Type 0
AreWritten (output.Rows job rows) = ArePrinted job rows.items
AreWritten (output.Line text) = IsText text.items 0

-- what is written are the costs from s, with status 0
abbrev pub TellCosts : Layers → Cell → CostLines → Type 0
TellCosts ls s lines_printed = (lines : List (List ℕ)) (status : ℕ) → AreWritten lines_printed lines status
    → (status ≡ 0) × (lines ≡ costs_answer ls s)
