use Rattle.std.proofs.Common.{◌≡◌, ◌+◌, ◌*◌, length}
use Rattle.bit_grid.specs.Pack.{is_free_in, IsBordered}
use Rattle.bit_grid.specs.Turn.{ArePackedSoFar}
use Rattle.bit_grid.proofs.pack.words_on.Given as goal

-- the border's first row is packed, and the rows behind
abbrev pub invariant-loop-y : goal.invariant-loop-y
invariant-loop-y l = record {
  room : length l.flags ≡ l.per_line * 64;
  border : IsBordered l.grid l.flags;
  long : length l.words.items ≡ (l.y + 1) * l.per_line;
  shown : ArePackedSoFar (is_free_in l.grid) l.per_line l.words.items;
}
