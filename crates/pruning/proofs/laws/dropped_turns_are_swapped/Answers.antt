use Rattle.pruning.proofs.Swapping.{dropped_turns_are_swapped}
use Rattle.pruning.proofs.laws.dropped_turns_are_swapped.Goals as goal

pub returns : goal.returns
returns c = dropped_turns_are_swapped
