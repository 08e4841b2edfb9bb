use Rattle.std.proofs.Common.{◌≡◌, ◌++◌, take}
use Rattle.cell_lines.specs.Cells.{texts_of}
use Rattle.grid_answers.specs.RunLines.{run_line}
use Rattle.grid_answers.proofs.moves.put_runs.Given as goal

abbrev pub invariant-loop-i : goal.invariant-loop-i
invariant-loop-i l = l.out.items ≡ l.fn.out.items ++ texts_of (run_line l.width) (take l.i l.row)
