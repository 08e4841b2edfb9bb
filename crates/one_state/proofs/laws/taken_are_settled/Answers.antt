use Rattle.one_state.proofs.Settling as lemmas
use Rattle.one_state.proofs.laws.taken_are_settled.Goals as goal

pub returns : goal.returns
returns c = λ p taken x u y sound run m k o e. (lemmas.settled p sound taken x u y run m k o e).is
