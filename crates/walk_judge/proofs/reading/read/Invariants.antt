use Rattle.std.proofs.Common.{◌≡◌, ◌+◌, ◌≤◌, ◌^◌, length}
use Rattle.text_line.specs.Reading.{read_behind}
use Rattle.walk_judge.specs.Walks.{place_read, places_from, walks_of}
use Rattle.walk_judge.proofs.reading.read.Given as goal

-- the text is read as the lines left are behind the walks so far
abbrev pub invariant-loop-line : goal.invariant-loop-line
invariant-loop-line l = record {
  read : walks_of l.text l.entries ≡ read_behind (place_read l.entries) l.walks.items
      (places_from l.next (length l.walks.items) l.line-iterator.lines);
  few : l.next + length l.line-iterator.lines ≤ 2 ^ 31;
}
