use Rattle.std.proofs.Common.{◌<◌, length, get_or}
use Rattle.first_moves.specs.declared.row.Run.{Run}
use Rattle.first_moves.proofs.row.reach_back.Given as goal

-- the run at `high` begins after the number
abbrev pub invariant-reaching : goal.invariant-reaching
invariant-reaching l = record {
  later : 0 < l.high;
  within : l.high < length l.runs;
  reach : 0 < l.reach;
  after : (d : Run) → l.number < (get_or l.runs l.high d).start;
}

abbrev pub decreases-reaching : goal.decreases-reaching
decreases-reaching l = l.high
