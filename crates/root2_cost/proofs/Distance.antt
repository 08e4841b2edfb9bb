-- The octile distance: what moves can change of it.
use Rattle.std.proofs.Common.{ℕ, ◌+◌, ◌≤◌, arith}
use Rattle.root2_cost.specs.Order.{IsAtMost}
use Rattle.root2_cost.specs.Sums.{add_costs, octile_cost}
use Rattle.root2_cost.proofs.AtMost.{at_most_by_counts}

-- the distance of the whole is at most that of two parts which together are as wide and as high
pub octile_triangle : (m n j i k l : ℕ) → m ≤ j + k → n ≤ i + l
    → IsAtMost (octile_cost m n) (add_costs (octile_cost j i) (octile_cost k l))
octile_triangle m n j i k l g h =
    at_most_by_counts (octile_cost m n)
    (add_costs (octile_cost j i) (octile_cost k l)) (omega arith) (omega arith)

-- j straight moves change the columns left by at most j
pub octile_columns : (j m k n : ℕ) → m ≤ k + j
    → IsAtMost (octile_cost m n) (add_costs (record { a = j; b = 0 }) (octile_cost k n))
octile_columns j m k n h =
    at_most_by_counts (octile_cost m n)
    (add_costs (record { a = j; b = 0 }) (octile_cost k n)) (omega arith) (omega arith)

-- or the rows left
pub octile_rows : (j m n l : ℕ) → n ≤ l + j
    → IsAtMost (octile_cost m n) (add_costs (record { a = j; b = 0 }) (octile_cost m l))
octile_rows j m n l h =
    at_most_by_counts (octile_cost m n)
    (add_costs (record { a = j; b = 0 }) (octile_cost m l)) (omega arith) (omega arith)

-- j diagonal moves change both by at most j
pub octile_diagonals : (j m k n l : ℕ) → m ≤ k + j → n ≤ l + j
    → IsAtMost (octile_cost m n) (add_costs (record { a = 0; b = j }) (octile_cost k l))
octile_diagonals j m k n l g h =
    at_most_by_counts (octile_cost m n)
    (add_costs (record { a = 0; b = j }) (octile_cost k l)) (omega arith) (omega arith)
