use Rattle.root2_cost.proofs.Distance.{octile_triangle}
use Rattle.root2_cost.proofs.laws.distances_add.Goals as goal

pub returns : goal.returns
returns c = octile_triangle
