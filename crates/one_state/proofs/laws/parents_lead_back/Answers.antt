use Rattle.one_state.proofs.Parents as lemmas
use Rattle.one_state.proofs.laws.parents_lead_back.Goals as goal

pub returns : goal.returns
returns c = lemmas.parents_lead_back
