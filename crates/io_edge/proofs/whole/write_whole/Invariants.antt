use Rattle.std.proofs.Common.{length, ◌-◌, ◌≤◌, take}
use Rattle.std.specs.Io.KnownBytes.{Appends}
use Rattle.io_edge.proofs.whole.write_whole.Given as goal

abbrev pub invariant-loop-count : goal.invariant-loop-count
invariant-loop-count g l = record {
  below : l.count ≤ length l.bytes;
  front : Appends (g.S.Sink.outflow l.fn.sink).written (g.S.Sink.outflow l.sink).written
      (take l.count l.bytes);
  later : (g.S.Sink.outflow l.fn.sink).faults ≤ (g.S.Sink.outflow l.sink).faults;
}

abbrev pub decreases-loop-count : goal.decreases-loop-count
decreases-loop-count g l = length l.bytes - l.count
