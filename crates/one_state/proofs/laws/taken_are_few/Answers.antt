use Rattle.one_state.proofs.Right as lemmas
use Rattle.one_state.proofs.laws.taken_are_few.Goals as goal

pub returns : goal.returns
returns c = λ p taken sound run. lemmas.few p sound taken run
