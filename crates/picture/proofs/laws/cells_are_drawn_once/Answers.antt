use Rattle.picture.proofs.Drawn.{drawn_once}
use Rattle.picture.proofs.laws.cells_are_drawn_once.Goals as goal

pub returns : goal.returns
returns c = drawn_once
