use Rattle.one_state.proofs.Estimates as estimates
use Rattle.one_state.proofs.laws.octile_is_consistent.Goals as goal

pub returns : goal.returns
returns c = estimates.octile_is_consistent
