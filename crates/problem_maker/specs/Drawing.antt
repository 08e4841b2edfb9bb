-- How a try takes its words. No public clause cites this module.
use Rattle.std.specs.Prelude.{◌≡◌, List}
use Rattle.rand_pcg.specs.Lcg.{Lcg}
use Rattle.rand_pcg.specs.Pcg.{pcg32}
use Rattle.grid_moves.specs.declared.Cell.{Cell}
use Rattle.grid_moves.specs.declared.ends.Ends.{Ends}
use Rattle.problem_maker.specs.Tries.{cell_at}

-- the next word picked the cell
pub record DrawsCell (cells : List Cell) (old : Lcg) (cell : Cell) (new : Lcg) : Type 0 where
  pub made : cell ≡ cell_at cells (pcg32 old).0
  pub left : new ≡ (pcg32 old).1

-- the next two words picked the ends
pub record Draws (cells : List Cell) (old : Lcg) (ends : Ends) (new : Lcg) : Type 0 where
  pub from : ends.from ≡ cell_at cells (pcg32 old).0
  pub to : ends.to ≡ cell_at cells (pcg32 (pcg32 old).1).0
  pub left : new ≡ (pcg32 (pcg32 old).1).1
