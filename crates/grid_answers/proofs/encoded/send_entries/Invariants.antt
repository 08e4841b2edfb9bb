use Rattle.std.proofs.Common.{◌≡◌, ◌≤◌, ◌-◌, drop, flat_map, length}
use Rattle.table_file.specs.Encoding.{entry_bytes}
use Rattle.grid_answers.specs.Encoded.{IsWritten}
use Rattle.grid_answers.proofs.encoded.send_entries.Given as goal

-- the bytes of the entries that are done were written
abbrev pub invariant-loop-done : goal.invariant-loop-done
invariant-loop-done g l = record {
  below : l.done ≤ length l.entries;
  room : length l.room ≡ 65536;
  written : IsWritten (g.O.Sink.outflow l.fn.out) (g.O.Sink.outflow l.out) (flat_map entry_bytes l.entries)
      (flat_map entry_bytes (drop l.done l.entries));
}

abbrev pub decreases-loop-done : goal.decreases-loop-done
decreases-loop-done g l = length l.entries - l.done
