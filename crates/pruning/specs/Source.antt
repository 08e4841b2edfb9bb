-- What a source of jumps is asked and tells.
use Rattle.std.specs.Prelude.{◌≡◌, ℕ, ◌+◌, ◌≤◌, ⊤, Option, Some, None}
use Rattle.grid_moves.specs.declared.Cell.{Cell}
use Rattle.grid_moves.specs.Grid.{GridData}
use Rattle.grid_moves.specs.Move.{legal_ahead}
use Rattle.pruning.specs.declared.Arrival.{Arrival}
use Rattle.pruning.specs.declared.Arrival.TheVariants.{Start, By}

-- a number of steps for a call of `stop`, and one for a call of `allowed` or `allowed_word`
pub record StepsByCall : Type 0 where
  pub stop : ℕ
  pub allowed : ℕ

-- a call that makes the counter go from the one number to the other makes no more steps than are known
abbrev pub IsWithin : Option StepsByCall → (StepsByCall → ℕ) → ℕ → ℕ → Type 0
IsWithin None call old new = ⊤
IsWithin (Some known) call old new = new ≤ old + call known

-- a cell can be reached by this arrival: from the cell before it by a legal move
abbrev pub CanArrive : GridData → Cell → Arrival → Type 0
CanArrive g at Start = ⊤
CanArrive g at (By d) = (u : Cell) × (legal_ahead g u d ≡ Some at)
