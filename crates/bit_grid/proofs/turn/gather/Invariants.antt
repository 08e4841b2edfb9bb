use Rattle.std.proofs.Common.{◌≡◌, length}
use Rattle.bit_grid.specs.Turn.{AreWordsTo}
use Rattle.bit_grid.proofs.turn.gather.Given as goal

-- the rows behind are gathered
abbrev pub invariant-loop-line : goal.invariant-loop-line
invariant-loop-line l = record {
  long : length l.down ≡ length l.fn.down;
  behind : AreWordsTo l.line l.down l.words l.lines l.per_line l.word;
}

-- all rows are, and what lies behind past them is 0
abbrev pub invariant-loop-line-2 : goal.invariant-loop-line-2
invariant-loop-line-2 l = record {
  long : length l.down ≡ length l.fn.down;
  behind : AreWordsTo l.line l.down l.words l.lines l.per_line l.word;
}
