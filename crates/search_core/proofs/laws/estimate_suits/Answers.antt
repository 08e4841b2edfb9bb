use Rattle.search_core.proofs.Ways.{jumps_consistent}
use Rattle.search_core.proofs.laws.estimate_suits.Goals as goal

pub returns : goal.returns
returns c = jumps_consistent
