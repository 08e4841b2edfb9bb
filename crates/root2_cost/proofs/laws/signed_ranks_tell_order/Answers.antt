use Rattle.root2_cost.proofs.Differences.{signed_ranks, signed_ranks_less}
use Rattle.root2_cost.proofs.laws.signed_ranks_tell_order.Goals as goal

pub returns : goal.returns
returns c p q s t = (signed_ranks p q s t, signed_ranks_less p q s t)
