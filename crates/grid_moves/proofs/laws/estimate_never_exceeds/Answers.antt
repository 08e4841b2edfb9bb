use Rattle.grid_moves.proofs.Consistent as consistent
use Rattle.grid_moves.proofs.laws.estimate_never_exceeds.Goals as goal

pub returns : goal.returns
returns c = consistent.never_exceeds
