use Rattle.std.proofs.Common.{◌≡◌, ℕ, ◌+◌, ◌*◌, ◌<◌, length, Bool, slice_index_or}
use Rattle.grid_moves.specs.Bits.{is_set}
use Rattle.bit_grid.specs.Turn.{ArePackedSoFar}
use Rattle.bit_grid.proofs.pack.push_line.Given as goal

-- the line's words so far
abbrev pub invariant-loop-w : goal.invariant-loop-w
invariant-loop-w l = record {
  long : length l.words.items ≡ length l.fn.words.items + l.w;
  shown : (free : ℕ → ℕ → Bool) (line : ℕ) → length l.fn.words.items ≡ line * l.per_line
      → ((m : ℕ) → m < l.per_line * 64 → is_set (slice_index_or l.bytes m 0) l.place ≡ free line m)
      → ArePackedSoFar free l.per_line l.fn.words.items → ArePackedSoFar free l.per_line l.words.items;
}
