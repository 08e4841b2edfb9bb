use Rattle.cost_waves.proofs.Turned.{cost_back}
use Rattle.cost_waves.proofs.laws.costs_turn_round.Goals as goal

pub returns : goal.returns
returns c = cost_back
