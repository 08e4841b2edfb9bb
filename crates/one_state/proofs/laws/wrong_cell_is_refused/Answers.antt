use Rattle.one_state.proofs.Stopping as lemmas
use Rattle.one_state.proofs.laws.wrong_cell_is_refused.Goals as goal

pub returns : goal.returns
returns c = lemmas.wrong_cell_is_refused
