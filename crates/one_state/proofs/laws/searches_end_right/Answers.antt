use Rattle.one_state.proofs.Deciding as lemmas
use Rattle.one_state.proofs.laws.searches_end_right.Goals as goal

pub returns : goal.returns
returns c = lemmas.searches_end_right
