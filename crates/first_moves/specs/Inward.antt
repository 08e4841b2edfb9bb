-- First moves by what a pass from the goal tells. No public clause cites this module.
use Rattle.std.specs.Prelude.{◌≡◌, Bool, false, Option, Some, None}
use Rattle.cost_waves.specs.Stored.{WaveData, Tells, cost_at}
use Rattle.grid_moves.specs.declared.Cell.{Cell}
use Rattle.grid_moves.specs.declared.Dir.{Dir}
use Rattle.grid_moves.specs.Grid.{GridData, AreSides}
use Rattle.grid_moves.specs.Move.{legal_ahead, move_cost}
use Rattle.plain_search.specs.Costs.{falls_by}

-- what waves keep of a pass from the goal
pub record IsPassFrom (g : GridData) (goal : Cell) (w : WaveData) : Type 0 where
  pub sides : AreSides g.width g.height
  pub width : w.width ≡ g.width
  pub height : w.height ≡ g.height
  pub tells : Tells g goal w

-- the same for some goal
pub record HasPass (g : GridData) (w : WaveData) : Type 0 where
  pub goal : Cell
  pub pass : IsPassFrom g goal w

-- what the goal costs falls by what the move to a cell costs, if there is one
abbrev pub leads_to : WaveData → Cell → Option Cell → Bool
leads_to w c None = false
leads_to w c (Some v) = falls_by (move_cost c v) (cost_at w c) (cost_at w v)

-- the same of the legal move in a direction, if there is one
abbrev pub leads : GridData → WaveData → Cell → Dir → Bool
leads g w c d = leads_to w c (legal_ahead g c d)
