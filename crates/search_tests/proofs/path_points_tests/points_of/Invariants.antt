use Rattle.std.proofs.Common.{◌≡◌, take}
use Rattle.search_tests.proofs.path_points_tests.points_of.Given as goal

abbrev pub invariant-loop-c : goal.invariant-loop-c
invariant-loop-c l = l.points ≡ take l.c-index l.cells
