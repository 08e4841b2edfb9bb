use Rattle.one_state.proofs.Right as lemmas
use Rattle.one_state.proofs.laws.goals_are_least.Goals as goal

pub returns : goal.returns
returns c = λ p taken x sound run member at. lemmas.goal_least p sound taken x run member at
