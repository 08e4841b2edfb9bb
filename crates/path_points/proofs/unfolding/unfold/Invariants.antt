use Rattle.std.proofs.Common.{◌≡◌, ◌∷◌, ◌++◌, true, drop, option_map}
use Rattle.grid_moves.specs.Points.{is_lined, unfolding_of, unfolded_from}
use Rattle.path_points.proofs.unfolding.unfold.Given as goal

-- the cells that are left complete the unfolding
abbrev pub invariant-loop-next : goal.invariant-loop-next
invariant-loop-next l = record {
  lined : is_lined (l.last ∷ drop l.next-index l.others) ≡ true;
  completes : unfolding_of l.p ≡ option_map (λ later. l.cells ++ later)
      (unfolded_from l.last (drop l.next-index l.others));
}
