use Rattle.pruning.proofs.Stopping.{stops_are_decided}
use Rattle.pruning.proofs.laws.stops_are_decided.Goals as goal

pub returns : goal.returns
returns c = stops_are_decided
