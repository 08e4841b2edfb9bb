use Rattle.first_moves.proofs.Led.{walks_are}
use Rattle.first_moves.proofs.laws.led_walks_are_found.Goals as goal

pub returns : goal.returns
returns c = walks_are
