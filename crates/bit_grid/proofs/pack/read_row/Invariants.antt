use Rattle.std.proofs.Common.{◌≡◌, length}
use Rattle.bit_grid.specs.Pack.{IsBordered}
use Rattle.bit_grid.proofs.Packing.{AreFirst}
use Rattle.bit_grid.proofs.pack.read_row.Given as goal

-- the cells behind are flagged, and the border is not
abbrev pub invariant-loop-x : goal.invariant-loop-x
invariant-loop-x l = record {
  long : length l.flags ≡ length l.fn.flags;
  border : IsBordered l.grid l.flags;
  behind : AreFirst l.grid l.y l.x l.flags;
}
