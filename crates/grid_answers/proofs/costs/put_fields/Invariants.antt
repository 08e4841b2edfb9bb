use Rattle.std.proofs.Common.{◌≡◌, ◌++◌}
use Rattle.grid_answers.specs.Distances.{fields_to}
use Rattle.grid_answers.specs.Printing.{row_costs}
use Rattle.grid_answers.proofs.costs.put_fields.Given as goal

-- the fields up to this column are written
abbrev pub invariant-loop-x : goal.invariant-loop-x
invariant-loop-x l = l.out.items ≡ l.fn.out.items ++ fields_to (row_costs l.waves l.y) l.x
