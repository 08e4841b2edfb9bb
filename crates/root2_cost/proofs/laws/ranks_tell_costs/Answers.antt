use Rattle.root2_cost.proofs.Decoding.{cost-rank}
use Rattle.root2_cost.proofs.laws.ranks_tell_costs.Goals as goal

pub returns : goal.returns
returns c = cost-rank
