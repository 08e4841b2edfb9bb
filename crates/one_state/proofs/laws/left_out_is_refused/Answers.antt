use Rattle.one_state.proofs.Stopping as lemmas
use Rattle.one_state.proofs.laws.left_out_is_refused.Goals as goal

pub returns : goal.returns
returns c = lemmas.left_out_is_refused
