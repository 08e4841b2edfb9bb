use Rattle.pruning.proofs.Exploring.{one_state_from}
use Rattle.pruning.proofs.Swapping.{dropped_turns_are_swapped, diagonals_go_first}
use Rattle.pruning.proofs.laws.one_state_suffices.Goals as goal

pub returns : goal.returns
returns c = one_state_from dropped_turns_are_swapped diagonals_go_first
