use Rattle.first_moves.proofs.Rowed.{rows_are}
use Rattle.first_moves.proofs.laws.rows_are_found.Goals as goal

pub returns : goal.returns
returns c = rows_are
