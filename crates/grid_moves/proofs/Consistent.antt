-- The octile estimate falls by at most a move's cost per move.
use Rattle.std.proofs.Common.{◌≡◌, ℕ, ◌+◌, ◌≤◌, arith, Bool, true, false, refl, ◌||◌, subst, List, [], ◌∷◌}
use Rattle.std.specs.Prelude.{nat_eq, if◌then◌else◌}
use Rattle.std.proofs.lemmas.Bool.Decides.{nat_tests}
use Rattle.root2_cost.specs.Order.{IsAtMost}
use Rattle.root2_cost.specs.Sums.{add_costs, no_cost}
use Rattle.root2_cost.proofs.AtMost.{IsAtMost-trans, same_at_most}
use Rattle.root2_cost.proofs.Sums.{IsAtMost-add_left}
use Rattle.root2_cost.proofs.Distance.{octile_columns, octile_rows, octile_diagonals}
use Rattle.grid_moves.specs.declared.Cell.{Cell}
use Rattle.grid_moves.specs.Grid.{GridData}
use Rattle.grid_moves.specs.Move.{is_legal, move_cost}
use Rattle.grid_moves.specs.Walk.{is_walk, cost_of, last_of, IsWalk}
use Rattle.grid_moves.specs.Points.{apart, estimate}
use Rattle.grid_moves.proofs.Legal.{IsLegal, and_both, legal_is}

apart_near : (m n t : ℕ) → m ≤ n + 1 → n ≤ m + 1 → apart m t ≤ apart n t + 1
apart_near m n t h k = omega arith

pub estimate_falls : (g : GridData) (u v t : Cell) → is_legal g u v ≡ true
    → IsAtMost (estimate u t) (add_costs (move_cost u v) (estimate v t))
estimate_falls g u v t h = by_column (nat_eq u.x v.x) refl
  where
    l : IsLegal g u v
    l = legal_is g u v h

    columns : apart u.x t.x ≤ apart v.x t.x + 1
    columns = apart_near u.x v.x t.x l.x_low l.x_high

    rows : apart u.y t.y ≤ apart v.y t.y + 1
    rows = apart_near u.y v.y t.y l.y_low l.y_high

    by_row : nat_eq u.x v.x ≡ false → (b : Bool) → nat_eq u.y v.y ≡ b
        → IsAtMost (estimate u t) (add_costs (if b then record { a = 1; b = 0 } else record { a = 0; b = 1 })
        (estimate v t))
    by_row n true e =
        let same : u.y ≡ v.y = grind (arith, nat_tests) in
        rw same (octile_columns 1 (apart u.x t.x) (apart v.x t.x) (apart v.y t.y) columns)
    by_row n false e =
        octile_diagonals 1 (apart u.x t.x) (apart v.x t.x) (apart u.y t.y) (apart v.y t.y) columns rows

    by_column : (b : Bool) → nat_eq u.x v.x ≡ b
        → IsAtMost (estimate u t) (add_costs
        (if b || nat_eq u.y v.y then record { a = 1; b = 0 } else record { a = 0; b = 1 }) (estimate v t))
    by_column true e =
        let same : u.x ≡ v.x = grind (arith, nat_tests) in
        rw same (octile_rows 1 (apart v.x t.x) (apart u.y t.y) (apart v.y t.y) rows)
    by_column false e = by_row e (nat_eq u.y v.y) refl

pub estimate_nothing : (t : Cell) → estimate t t ≡ no_cost
estimate_nothing t =
    let x : apart t.x t.x ≡ 0 = omega arith in
    let y : apart t.y t.y ≡ 0 = omega arith in
    rw (x, y) refl

-- along a walk the estimate falls by at most its cost
along : (g : GridData) (t s : Cell) (cells : List Cell) → is_walk g (s ∷ cells) ≡ true → last_of s cells ≡ t
    → IsAtMost (estimate s t) (cost_of (s ∷ cells))
along g t s [] w e = subst (λ (c : Cell). IsAtMost (estimate s c) no_cost) e
    (same_at_most (estimate s s) no_cost (estimate_nothing s))
along g t s (v ∷ cells) w e =
    let parts = and_both (is_legal g s v) (is_walk g (v ∷ cells)) w in
    IsAtMost-trans (estimate s t) (add_costs (move_cost s v) (estimate v t)) (cost_of (s ∷ v ∷ cells))
    (estimate_falls g s v t parts.0)
    (IsAtMost-add_left (move_cost s v) (estimate v t) (cost_of (v ∷ cells)) (along g t v cells parts.1 e))

pub never_exceeds : (g : GridData) (s t : Cell) (cells : List Cell) → IsWalk g s t cells
    → IsAtMost (estimate s t) (cost_of (s ∷ cells))
never_exceeds g s t cells w = along g t s cells w.legal w.ends
