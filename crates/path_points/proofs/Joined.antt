-- Walks that a run begins.
use Rattle.std.proofs.Common.{arith}
use Rattle.std.proofs.lemmas.Bool.{cases_Bool}
use Rattle.std.proofs.Common.{◌≡◌, ◌+◌, true, refl, ap, sym, ◌∙◌, List, ◌∷◌, ◌++◌}
use Rattle.root2_cost.specs.Sums.{add_costs}
use Rattle.grid_moves.specs.declared.Cell.{Cell}
use Rattle.grid_moves.specs.Grid.{GridData, is_free}
use Rattle.grid_moves.specs.Points.{steps_between}
use Rattle.grid_moves.specs.Walk.{is_walk, cost_of, last_of}
use Rattle.grid_moves.proofs.Walks.{cost-joined, end_free, steps-cost_of, walk-joined, walk-parts}
use Rattle.path_points.specs.Checked.{run}
use Rattle.path_points.proofs.Filling.{segment-length, segment_last}

pub run_ends : (u v : Cell) → last_of u (run u v) ≡ v
run_ends u v = segment_last (steps_between u v) u v refl

pub run_free : (g : GridData) (u v : Cell) → is_walk g (u ∷ run u v) ≡ true → is_free g v ≡ true
run_free g u v h = end_free g u v (run u v) (record { legal = h; ends = run_ends u v })

pub run_joined :
    (g : GridData) (u v : Cell) (later : List Cell) → is_walk g (u ∷ run u v) ≡ true
    → is_walk g (v ∷ later) ≡ true → is_walk g (u ∷ (run u v ++ later)) ≡ true
run_joined g u v later h k =
    walk-joined g u (run u v) later h (ap (λ (c : Cell). is_walk g (c ∷ later)) (run_ends u v) ∙ k)

pub run_parts :
    (g : GridData) (u v : Cell) (later : List Cell) → is_walk g (u ∷ (run u v ++ later)) ≡ true
    → (is_walk g (u ∷ run u v) ≡ true) × (is_walk g (v ∷ later) ≡ true)
run_parts g u v later h =
    let parts = walk-parts g u (run u v) later h in
    (parts.0, ap (λ (c : Cell). is_walk g (c ∷ later)) (sym (run_ends u v)) ∙ parts.1)

-- the cost of a walk that a run begins
pub run_cost_joined :
    (u v : Cell) (later : List Cell)
    → cost_of (u ∷ (run u v ++ later)) ≡ add_costs (cost_of (u ∷ run u v)) (cost_of (v ∷ later))
run_cost_joined u v later = grind (arith, cases_Bool, cost-joined, run_ends)

pub run_counts : (u v : Cell) → (cost_of (u ∷ run u v)).a + (cost_of (u ∷ run u v)).b ≡ steps_between u v
run_counts u v = steps-cost_of u (run u v) ∙ segment-length (steps_between u v) u v
