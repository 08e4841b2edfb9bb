use Rattle.one_state.proofs.Estimates as estimates
use Rattle.one_state.proofs.laws.nothing_is_consistent.Goals as goal

pub returns : goal.returns
returns c = estimates.nothing_is_consistent
