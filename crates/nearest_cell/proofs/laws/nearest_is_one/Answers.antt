use Rattle.nearest_cell.proofs.Lawful.{nearest_one}
use Rattle.nearest_cell.proofs.laws.nearest_is_one.Goals as goal

pub returns : goal.returns
returns c = nearest_one
