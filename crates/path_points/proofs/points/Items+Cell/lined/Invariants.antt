use Rattle.std.proofs.Common.{◌≡◌, ◌∷◌, drop}
use Rattle.grid_moves.specs.Points.{is_lined}
use Rattle.path_points.proofs.points.Items+Cell.lined.Given as goal

-- what is left decides
abbrev pub invariant-loop-next : goal.invariant-loop-next
invariant-loop-next l = is_lined (l.last ∷ drop l.next-index l.others) ≡ is_lined l.self
