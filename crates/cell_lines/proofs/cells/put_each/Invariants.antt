use Rattle.std.proofs.Common.{◌≡◌, ◌++◌, take}
use Rattle.cell_lines.specs.Cells.{point_text, texts_of}
use Rattle.cell_lines.proofs.cells.put_each.Given as goal

abbrev pub invariant-loop-c : goal.invariant-loop-c
invariant-loop-c l = l.out.items ≡ l.fn.out.items ++ texts_of point_text (take l.c-index l.cells)
