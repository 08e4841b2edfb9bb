-- There is one nearest cell, and it is the goal where a walk leads there.
use Rattle.std.proofs.Common.{◌≡◌, ℕ, ◌+◌, ◌<◌, ◌≤◌, ◌⊎◌, inl, inr, arith, refl, ap, sym, ◌∙◌, subst}
use Rattle.std.specs.Prelude.{max, min}
use Rattle.root2_cost.specs.declared.Cost.{Cost}
use Rattle.root2_cost.specs.Order.{IsLess}
use Rattle.root2_cost.specs.Sums.{no_cost}
use Rattle.root2_cost.proofs.AtMost.{IsAtMost-not_more}
use Rattle.root2_cost.proofs.Less.{IsLess-asymmetric, IsLess-irreflexive}
use Rattle.root2_cost.proofs.Sums.{no_cost_at_most}
use Rattle.grid_moves.specs.declared.Cell.{Cell}
use Rattle.grid_moves.specs.Grid.{GridData, cell_number, is_free}
use Rattle.grid_moves.specs.Points.{apart, estimate}
use Rattle.grid_moves.proofs.Consistent.{estimate_nothing}
use Rattle.grid_moves.proofs.Legal.{free_inside, same_cell}
use Rattle.grid_moves.proofs.Places.{one_cell}
use Rattle.grid_moves.proofs.Walks.{end_free}
use Rattle.joined_cells.specs.Joined.{IsJoined}
use Rattle.nearest_cell.specs.Nearest.{IsNearest, IsNoFarther}

column : (g : GridData) (s c : Cell) → IsJoined g s c → c.x < g.width
column g s c j = (free_inside g c (end_free g s c j.cells j.walk)).0

pub nearest_one : (g : GridData) (s goal c d : Cell) → IsNearest g s goal c → IsNearest g s goal d → c ≡ d
nearest_one g s goal c d p q = both (p.first d q.joined) (q.first c p.joined)
  where
    same : (m n : ℕ) → m ≤ n → n ≤ m → m ≡ n
    same m n h k = omega arith

    both : IsNoFarther g.width goal c d → IsNoFarther g.width goal d c → c ≡ d
    both (inl l) (inl m) = absurd (IsLess-asymmetric (estimate c goal) (estimate d goal) l m)
    both (inl l) (inr e) = absurd (IsLess-irreflexive (estimate d goal)
        (subst (λ (k : Cost). IsLess k (estimate d goal)) (sym e.0) l))
    both (inr e) (inl m) = absurd (IsLess-irreflexive (estimate c goal)
        (subst (λ (k : Cost). IsLess k (estimate c goal)) (sym e.0) m))
    both (inr e) (inr f) = one_cell g.width c d (column g s c p.joined) (column g s d q.joined)
        (same (cell_number g.width c) (cell_number g.width d) e.1 f.1)

pub nearest_goal : (g : GridData) (s goal c : Cell) → IsJoined g s goal → IsNearest g s goal c → c ≡ goal
nearest_goal g s goal c j p = by_case (p.first goal j)
  where
    alike : (m n x y : ℕ) → max (apart m x) (apart n y) ≡ 0 → (m ≡ x) × (n ≡ y)
    alike m n x y e = (omega arith, omega arith)

    here : estimate c goal ≡ no_cost → c ≡ goal
    here e =
        let a = ap (λ (k : Cost). k.a) e in
        let b = ap (λ (k : Cost). k.b) e in
        let both = alike c.x c.y goal.x goal.y (omega (arith, a, b)) in
        same_cell c goal both.0 both.1

    by_case : IsNoFarther g.width goal c goal → c ≡ goal
    by_case (inl l) = absurd (IsAtMost-not_more no_cost (estimate c goal) (no_cost_at_most (estimate c goal))
        (subst (λ (k : Cost). IsLess (estimate c goal) k) (estimate_nothing goal) l))
    by_case (inr e) = here (e.0 ∙ estimate_nothing goal)
