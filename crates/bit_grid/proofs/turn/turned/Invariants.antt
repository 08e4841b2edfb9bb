use Rattle.std.proofs.Common.{◌≡◌, ℕ, ◌-◌, ◌*◌, ◌/◌, ◌<◌, length, Bool}
use Rattle.bit_grid.specs.Turn.{ArePackedSoFar, AreWordsTo, IsStrip, IsWhole}
use Rattle.bit_grid.proofs.turn.turned.Given as goal

-- the columns behind are turned, and of the last one the words and the strip are at hand
abbrev pub invariant-loop-column : goal.invariant-loop-column
invariant-loop-column l = record {
  room : length l.strip ≡ l.per_column * 64;
  deep : length l.down ≡ l.per_column * 64;
  long : length l.found.items ≡ l.column * l.per_column;
  down : 0 < l.column
      → AreWordsTo (length l.down) l.down l.words l.lines l.per_line ((l.column - 1) / 64);
  strip : 0 < l.column → IsStrip l.strip l.words l.lines l.per_line ((l.column - 1) / 8);
  behind : (free : ℕ → ℕ → Bool) → IsWhole l.words l.lines l.per_line free
      → ArePackedSoFar (λ column row. free row column) l.per_column l.found.items;
}
