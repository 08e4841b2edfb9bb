-- The octile estimate is consistent over links that cost octile distances, and sums are short.
use Rattle.std.proofs.Common.{ℕ, ◌+◌, ◌≤◌, ◌^◌, arith}
use Rattle.root2_cost.specs.declared.Cost.{Cost}
use Rattle.root2_cost.specs.Laws.{HasShortParts}
use Rattle.root2_cost.specs.Order.{IsAtMost}
use Rattle.root2_cost.specs.Sums.{add_costs}
use Rattle.root2_cost.proofs.Distance.{octile_triangle}
use Rattle.grid_moves.specs.declared.Cell.{Cell}
use Rattle.grid_moves.specs.Points.{estimate}
use Rattle.grid_moves.proofs.Legal.{is_same-cell}
use Rattle.grid_moves.proofs.Consistent.{estimate_nothing}
use Rattle.search_run.specs.Chain.{IsConsistent}
use Rattle.best_first.specs.Rule.{Links, search_rule, AreLinks, LiesOn}
use Rattle.best_first.proofs.States.{is_same_state-state, is_same_state-itself}

-- the octile distance obeys the triangle inequality
pub estimate_triangle : (u v goal : Cell)
    → IsAtMost (estimate u goal) (add_costs (estimate u v) (estimate v goal))
estimate_triangle u v goal = grind (arith, octile_triangle)

pub consistent : (width height : ℕ) (goal : Cell) (link : Links) → AreLinks width height link
    → IsConsistent (search_rule width goal link)
consistent width height goal link a = record {
  falls = λ p u v c e. rw (a.priced p u v c e) (estimate_triangle u.cell v.cell goal);
  nothing = λ s e. rw (is_same-cell s.cell goal e) (estimate_nothing goal);
  one = is_same_state-state;
  itself = is_same_state-itself;
}

-- the sum of a cost of few moves and an estimate is short
pub short_sum : (width height : ℕ) (c goal : Cell) (cost : Cost) → width ≤ 4096 → height ≤ 4096
    → LiesOn width height c → LiesOn width height goal → cost.a + cost.b ≤ 2 ^ 29
    → HasShortParts (add_costs cost (estimate c goal))
short_sum width height c goal cost n l a b few = grind (arith, a.0, a.1, b.0, b.1)

-- a link costs few moves
pub short_link : (width height : ℕ) (c d : Cell) → width ≤ 4096 → height ≤ 4096 → LiesOn width height c
    → LiesOn width height d → (estimate c d).a + (estimate c d).b ≤ 4096
short_link width height c d n l a b = omega (arith, a.0, a.1, b.0, b.1)
