use Rattle.search_core.proofs.ByCell.{by_such}
use Rattle.search_core.proofs.laws.runs_by_cell_are_such.Goals as goal

pub returns : goal.returns
returns c = by_such
