-- Ranks of costs: whole numbers a * q + b * p, where p * p is twice q * q and one more.
use Rattle.std.proofs.Common.{◌≡◌, ℕ, ◌+◌, ◌*◌, ◌^◌, ◌<◌, ◌≤◌, inl, inr, arith, ap, ◌∙◌, lit<}
use Rattle.std.proofs.Math.Nat.{mul-le-mul}
use Rattle.root2_cost.specs.declared.Cost.{Cost}
use Rattle.root2_cost.specs.Order.{IsLess}
use Rattle.root2_cost.specs.Rank.{rank_of, straight_rank, diagonal_rank, squares_meet}
use Rattle.root2_cost.specs.Laws.{HasShortParts}
use Rattle.root2_cost.proofs.Squares.{root_below, square_positive}
use Rattle.root2_cost.proofs.Gaps.{Gap, both, first, second}
use Rattle.root2_cost.proofs.Less.{less_gap, IsLess-total}

-- (x q)² is x² q²
square_of_product : (x q : ℕ) → (x * q) * (x * q) ≡ (x * x) * (q * q)
square_of_product x q = omega arith

-- what y diagonal moves count is less than what x straight ones do, where 2y² < x² and y < q
straight_more : (q p x y : ℕ) → p * p ≡ 2 * (q * q) + 1 → 2 * (y * y) < x * x → y < q → y * p < x * q
straight_more q p x y pell h small =
    root_below (y * p) (x * q) (
    let e : (y * p) * (y * p) ≡ (y * y) * (2 * (q * q) + 1) =
    square_of_product y p ∙ ap (λ n. (y * y) * n) pell in
    let most : (2 * (y * y) + 1) * (q * q) ≤ (x * x) * (q * q) = mul-le-mul (omega arith) (omega arith) in
    let less : y * y < q * q = square_less y q small in
    let f : (x * q) * (x * q) ≡ (x * x) * (q * q) = square_of_product x q in
    omega arith)
  where
    square_less : (m n : ℕ) → m < n → m * m < n * n
    square_less m n l = grind arith

-- what x straight moves count is less than what y diagonal ones do, where x² < 2y²
diagonal_more : (q p x y : ℕ) → p * p ≡ 2 * (q * q) + 1 → x * x < 2 * (y * y) → 0 < q → x * q < y * p
diagonal_more q p x y pell h some =
    root_below (x * q) (y * p) (
    let e : (y * p) * (y * p) ≡ (y * y) * (2 * (q * q) + 1) =
    square_of_product y p ∙ ap (λ n. (y * y) * n) pell in
    let most : (x * x + 1) * (q * q) ≤ (2 * (y * y)) * (q * q) = mul-le-mul (omega arith) (omega arith) in
    let positive : 0 < q * q = square_positive q some in
    let f : (x * q) * (x * q) ≡ (x * x) * (q * q) = square_of_product x q in
    omega arith)

-- some moves count something
some_count : (q p x y : ℕ) → 0 < q → 0 < p → 0 < x + y → 0 < x * q + y * p
some_count q p x y s t h = grind arith

-- a greater cost has a greater rank, where fewer than q diagonal moves differ
gap_ranks : (q p : ℕ) → p * p ≡ 2 * (q * q) + 1 → 0 < q → {a b c d : ℕ} → b < q → Gap a b c d
    → a * q + b * p < c * q + d * p
gap_ranks q p pell some {a} {b} {c} {d} small (both x y e f h) =
    let more : 0 < x * q + y * p = some_count q p x y some (positive p pell) h in
    let g : c * q ≡ (a + x) * q = ap (λ n. n * q) e in
    let i : d * p ≡ (b + y) * p = ap (λ n. n * p) f in
    omega arith
  where
    positive : (p : ℕ) → p * p ≡ 2 * (q * q) + 1 → 0 < p
    positive p e = grind arith
gap_ranks q p pell some {a} {b} {c} {d} small (first x y e f h) =
    let less : y * p < x * q = straight_more q p x y pell h (omega arith) in
    let g : c * q ≡ (a + x) * q = ap (λ n. n * q) e in
    let i : b * p ≡ (d + y) * p = ap (λ n. n * p) f in
    omega arith
gap_ranks q p pell some {a} {b} {c} {d} small (second x y e f h) =
    let less : x * q < y * p = diagonal_more q p x y pell h some in
    let g : a * q ≡ (c + x) * q = ap (λ n. n * q) e in
    let i : d * p ≡ (b + y) * p = ap (λ n. n * p) f in
    omega arith

-- the lesser of two costs has the lesser rank
pub less_ranks : (p q : Cost) → HasShortParts p → IsLess p q → rank_of p < rank_of q
less_ranks p q s h =
    gap_ranks straight_rank diagonal_rank squares_meet (lit< tt) (below s.diagonal) (less_gap p q h)
  where
    below : (p.b < 2 ^ 31) → p.b < straight_rank
    below l = omega arith

-- and the one of the lesser rank is the lesser
pub ranks_less : (p q : Cost) → HasShortParts p → HasShortParts q → rank_of p < rank_of q → IsLess p q
ranks_less p q s t h = elim (IsLess-total p q) [
  | inl less ↦ less
  | inr (inl more) ↦ absurd (not_both (rank_of p) (rank_of q) h (less_ranks q p t more))
  | inr (inr same) ↦ absurd (not_same (rank_of p) (rank_of q) h (ap rank_of same))
]
  where
    not_both : (m n : ℕ) → m < n → n < m → ⊥
    not_both m n g h = omega arith

    not_same : (m n : ℕ) → m < n → m ≡ n → ⊥
    not_same m n g h = omega arith
