use Rattle.std.proofs.Common.{◌≡◌, ◌*◌}
use Rattle.problem_maker.specs.Free.{free_below}
use Rattle.problem_maker.proofs.free.free_cells.Given as goal

abbrev pub invariant-loop-y : goal.invariant-loop-y
invariant-loop-y l = l.cells.items ≡ free_below l.layers (l.y * l.layers.land.width)
