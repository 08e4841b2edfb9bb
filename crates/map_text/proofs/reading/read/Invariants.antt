use Rattle.std.proofs.Common.{◌≡◌, ◌+◌, suc, take, drop, length}
use Rattle.std.specs.List.{concat}
use Rattle.text_line.specs.Lines.{lines_of}
use Rattle.map_text.specs.Progress.{Stands}
use Rattle.map_text.proofs.reading.read.Given as goal

-- the header and the rows behind break nothing, and the cells are the bytes of these rows
abbrev pub invariant-loop-row : goal.invariant-loop-row
invariant-loop-row l = record {
  stands : Stands (lines_of l.text) (suc (suc (suc (suc l.row)))) l.lines;
  cells : l.cells.items ≡ concat (take l.row (drop 4 (lines_of l.text)));
}

-- the lines behind break nothing
abbrev pub invariant-loop-line : goal.invariant-loop-line
invariant-loop-line l =
    Stands (lines_of l.text) (suc (suc (suc (suc (l.height + length l.yielded))))) l.line-iterator
