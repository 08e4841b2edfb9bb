use Rattle.std.proofs.Common.{◌≡◌, ◌+◌, ◌≤◌, ◌++◌, map, drop, length}
use Rattle.first_moves.specs.First.{first_in}
use Rattle.first_moves.specs.Runs.{runs_of, runs_from}
use Rattle.first_moves.proofs.row.fill.Given as goal

-- the runs so far, and those that begin in what is left, are all
abbrev pub invariant-loop-i : goal.invariant-loop-i
invariant-loop-i l = record {
  whole : runs_of (map first_in l.bytes)
      ≡ l.runs.items ++ runs_from (l.i + 1) (first_in l.before) (map first_in (drop l.i l.others));
  few : length l.runs.items ≤ l.i + 1;
}
