use Rattle.std.proofs.Common.{◌≡◌, ◌≤◌, ◌++◌, length}
use Rattle.pruning.proofs.packed.Packed.to_list.Given as goal

-- what was found and what is left are all of them, at most eight
abbrev pub invariant-left : goal.invariant-left
invariant-left l = record { parts : l.fn.self ≡ l.found.items ++ l.left; few : length l.fn.self ≤ 8 }

abbrev pub decreases-left : goal.decreases-left
decreases-left l = length l.left
