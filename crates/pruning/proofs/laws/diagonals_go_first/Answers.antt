use Rattle.pruning.proofs.Swapping.{diagonals_go_first}
use Rattle.pruning.proofs.laws.diagonals_go_first.Goals as goal

pub returns : goal.returns
returns c = diagonals_go_first
