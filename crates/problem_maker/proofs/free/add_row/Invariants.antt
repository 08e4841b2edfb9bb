use Rattle.std.proofs.Common.{◌≡◌, ◌+◌, ◌*◌}
use Rattle.problem_maker.specs.Free.{free_below}
use Rattle.problem_maker.proofs.free.add_row.Given as goal

abbrev pub invariant-loop-x : goal.invariant-loop-x
invariant-loop-x l = l.cells.items ≡ free_below l.layers (l.y * l.layers.land.width + l.x)
