use Rattle.std.proofs.Common.{◌≡◌, length}
use Rattle.bit_grid.specs.Turn.{AreBytesTo}
use Rattle.bit_grid.proofs.turn.take_bytes.Given as goal

-- the bytes behind are taken
abbrev pub invariant-loop-line : goal.invariant-loop-line
invariant-loop-line l = record {
  long : length l.strip ≡ length l.fn.strip;
  behind : AreBytesTo l.line l.strip l.down l.place;
}
