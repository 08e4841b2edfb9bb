use Rattle.grid_moves.proofs.Consistent as consistent
use Rattle.grid_moves.proofs.laws.estimate_falls.Goals as goal

pub returns : goal.returns
returns c = consistent.estimate_falls
