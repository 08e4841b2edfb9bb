use Rattle.nearest_cell.proofs.Lawful.{nearest_goal}
use Rattle.nearest_cell.proofs.laws.nearest_is_goal.Goals as goal

pub returns : goal.returns
returns c = nearest_goal
