use Rattle.std.proofs.Common.{◌≡◌, ◌∷◌, ◌++◌, drop}
use Rattle.path_points.specs.Corners.{corners, turns_after}
use Rattle.path_points.proofs.turning.turns.Given as goal

abbrev pub invariant-loop-next : goal.invariant-loop-next
invariant-loop-next l = l.points ++ turns_after l.before (l.at ∷ drop l.next-index l.others)
    ≡ corners l.fn.cells
