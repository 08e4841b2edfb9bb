use Rattle.std.proofs.Common.{◌≡◌, ◌++◌, map}
use Rattle.std.specs.List.{concat, range_with_len}
use Rattle.grid_answers.specs.Printing.{printed_line}
use Rattle.grid_answers.proofs.framed.put_rows.Given as goal

abbrev pub invariant-loop-y : goal.invariant-loop-y
invariant-loop-y l =
    l.out.items ≡ l.fn.out.items ++ concat (map (printed_line l.waves) (range_with_len 0 l.y))
