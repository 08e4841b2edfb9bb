use Rattle.one_state.proofs.Deciding as lemmas
use Rattle.one_state.proofs.laws.runs_are_decided.Goals as goal

pub returns : goal.returns
returns c = lemmas.runs_are_decided
