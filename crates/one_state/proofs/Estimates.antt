-- Consistent estimates: over a walk they fall by at most what it costs.
use Rattle.std.proofs.Common.{refl, ap, sym, ◌∙◌, List, [], ◌∷◌}
use Rattle.root2_cost.specs.declared.Signed.{Signed}
use Rattle.root2_cost.specs.Signed.{signed_of, add_signed}
use Rattle.root2_cost.specs.Sums.{add_costs, no_cost}
use Rattle.root2_cost.proofs.Most.{Most-nothing}
use Rattle.root2_cost.proofs.Sums.{add_costs-no_cost_right}
use Rattle.grid_moves.specs.declared.Cell.{Cell}
use Rattle.grid_moves.specs.Grid.{GridData}
use Rattle.grid_moves.specs.Move.{is_legal, move_cost}
use Rattle.grid_moves.specs.Points.{estimate}
use Rattle.grid_moves.specs.Walk.{IsWalk, is_walk, cost_of}
use Rattle.grid_moves.proofs.Consistent.{estimate_falls, estimate_nothing}
use Rattle.grid_moves.proofs.Legal.{and_both}
use Rattle.one_state.specs.Estimate.{Estimate, IsConsistent}
use Rattle.one_state.specs.Laws.{NothingIsConsistent, OctileIsConsistent}
use Rattle.one_state.proofs.Sums.{Below, Below-then, Below-same, Below-add_left, of_costs, signed_sum}
use Rattle.one_state.proofs.Sums.{add_signed-assoc, add_signed-nothing_left}

pub nothing_is_consistent : NothingIsConsistent
nothing_is_consistent g goal = record {
  nothing_at_goal = refl;
  falls = λ u v l. (Below-then (of_costs (Most-nothing (add_costs (move_cost u v) no_cost)))
      (Below-same (signed_sum (move_cost u v) no_cost))).is;
}

pub octile_is_consistent : OctileIsConsistent
octile_is_consistent g goal = record {
  nothing_at_goal = ap signed_of (estimate_nothing goal);
  falls = λ u v l. (Below-then (of_costs (record { is = estimate_falls g u v goal l }))
      (Below-same (signed_sum (move_cost u v) (estimate v goal)))).is;
}

module _ (g : GridData) (goal : Cell) (h : Estimate) (c : IsConsistent g goal h) where
  pub falls_along : (s t : Cell) (cells : List Cell) → IsWalk g s t cells
      → Below (h s) (add_signed (signed_of (cost_of (s ∷ cells))) (h t))
  falls_along s t [] w = Below-same (ap h w.ends ∙ sym (add_signed-nothing_left (h t)))
  falls_along s t (v ∷ cells) w =
      let legal = and_both (is_legal g s v) (is_walk g (v ∷ cells)) w.legal in
      let rest = falls_along v t cells (record { legal = legal.1; ends = w.ends }) in
      let move : Signed = signed_of (move_cost s v) in
      Below-then (record { is = c.falls s v legal.0 })
      (Below-then (Below-add_left move (h v) (add_signed (signed_of (cost_of (v ∷ cells))) (h t)) rest)
      (Below-same (sym (add_signed-assoc move (signed_of (cost_of (v ∷ cells))) (h t))
      ∙ ap (λ (q : Signed). add_signed q (h t)) (sym (signed_sum (move_cost s v) (cost_of (v ∷ cells)))))))

  -- so no estimate exceeds what a walk to the goal costs
  pub never_exceeds : (s : Cell) (cells : List Cell) → IsWalk g s goal cells
      → Below (h s) (signed_of (cost_of (s ∷ cells)))
  never_exceeds s cells w = Below-then (falls_along s goal cells w)
      (Below-same (ap (λ (q : Signed). add_signed (signed_of (cost_of (s ∷ cells))) q) c.nothing_at_goal
      ∙ sym (signed_sum (cost_of (s ∷ cells)) no_cost)
      ∙ ap signed_of (add_costs-no_cost_right (cost_of (s ∷ cells)))))
