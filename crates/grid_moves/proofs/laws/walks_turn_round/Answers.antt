use Rattle.grid_moves.proofs.Turned.{walk_back}
use Rattle.grid_moves.proofs.laws.walks_turn_round.Goals as goal

pub returns : goal.returns
returns c = walk_back
