use Rattle.nearest_cell.proofs.Listed.{nearest_of-first}
use Rattle.nearest_cell.proofs.laws.nearest_of_is_nearest.Goals as goal

pub returns : goal.returns
returns c = nearest_of-first
