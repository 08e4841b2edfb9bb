use Rattle.std.proofs.Common.{◌≡◌, ◌+◌, ◌-◌, ◌≤◌, length}
use Rattle.io_edge.specs.Causes.{NoneFell}
use Rattle.io_edge.proofs.Reading.{HasRead}
use Rattle.io_edge.proofs.whole.read_whole.Given as goal

abbrev pub invariant-loop-filled : goal.invariant-loop-filled
invariant-loop-filled g l = record {
  one_more : l.most ≡ l.limit + 1;
  below : l.filled ≤ l.most;
  inside : l.filled ≤ length l.bytes.items;
  within : length l.bytes.items ≤ l.most;
  read : HasRead ((g.F.Files.disk l.fn.files).holds l.name) l.filled l.bytes.items;
  unchanged : (g.F.Files.disk l.files).holds ≡ (g.F.Files.disk l.fn.files).holds;
  later : NoneFell (g.F.Files.disk l.fn.files).faults (g.F.Files.disk l.files).faults;
}

abbrev pub decreases-loop-filled : goal.decreases-loop-filled
decreases-loop-filled g l = l.most - l.filled
