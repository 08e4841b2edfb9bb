use Rattle.one_state.proofs.Stopping as lemmas
use Rattle.one_state.proofs.laws.further_is_in_time.Goals as goal

pub returns : goal.returns
returns c = lemmas.further_is_in_time
