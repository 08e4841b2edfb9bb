use Rattle.std.proofs.Common.{◌<◌, ◌≤◌, ◌-◌, length, get_or}
use Rattle.first_moves.specs.declared.row.Run.{Run}
use Rattle.first_moves.proofs.row.reach_forward.Given as goal

-- the run at `low` begins at the number or before, unless it is the first one
abbrev pub invariant-reaching : goal.invariant-reaching
invariant-reaching l = record {
  within : l.low < length l.runs;
  reach : 0 < l.reach;
  begun : (d : Run) → 0 < l.low → (get_or l.runs l.low d).start ≤ l.number;
}

abbrev pub decreases-reaching : goal.decreases-reaching
decreases-reaching l = length l.runs - l.low
