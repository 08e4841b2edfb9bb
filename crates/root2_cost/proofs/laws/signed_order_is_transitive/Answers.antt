use Rattle.root2_cost.proofs.Differences.{signed_at_most-trans}
use Rattle.root2_cost.proofs.laws.signed_order_is_transitive.Goals as goal

pub returns : goal.returns
returns c = signed_at_most-trans
