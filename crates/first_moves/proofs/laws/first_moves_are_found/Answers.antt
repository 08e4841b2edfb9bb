use Rattle.first_moves.proofs.Led.{moves_are}
use Rattle.first_moves.proofs.laws.first_moves_are_found.Goals as goal

pub returns : goal.returns
returns c = moves_are
