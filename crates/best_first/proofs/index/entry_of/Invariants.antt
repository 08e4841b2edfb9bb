use Rattle.std.proofs.Common.{◌≤◌, length}
use Rattle.best_first.proofs.Records.{Follows}
use Rattle.best_first.proofs.index.entry_of.Given as goal

abbrev pub invariant-loop-at : goal.invariant-loop-at
invariant-loop-at l = record {
  follows : Follows l.records l.tag l.at;
  within : l.at ≤ length l.records;
}

abbrev pub decreases-loop-at : goal.decreases-loop-at
decreases-loop-at l = l.at
