use Rattle.root2_cost.proofs.Ranking.{less_ranks, ranks_less}
use Rattle.root2_cost.proofs.laws.ranks_tell_order.Goals as goal

pub returns : goal.returns
returns c p q s t = (less_ranks p q s, ranks_less p q s t)
