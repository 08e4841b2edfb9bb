-- Squares of whole numbers, and that √2 is no fraction.
use Rattle.std.proofs.lemmas.Bool.Decides.{nat_tests}
use Rattle.std.proofs.Common.{◌≡◌, ℕ, suc, zero, ◌+◌, ◌*◌, ◌<◌, ◌≤◌, ◌⊎◌, inl, inr, arith, ◌/◌}
use Rattle.std.proofs.Math.Nat.{mul-le-mul}

-- squares keep the order
pub square_grows : (m n : ℕ) → m ≤ n → m * m ≤ n * n
square_grows m n h = grind arith

-- and give it back
pub root_below : (m n : ℕ) → m * m < n * n → m < n
root_below m n h = grind arith

pub root_at_most : (m n : ℕ) → m * m ≤ n * n → m ≤ n
root_at_most m n h = grind (arith, square_grows (suc n) m)

-- what is not 0 has no square 0
pub square_positive : (n : ℕ) → 0 < n → 0 < n * n
square_positive n h = let one : 1 * 1 ≤ n * n = square_grows 1 n (omega arith) in omega arith

-- from u ≤ v√2 and r ≤ s√2: u times r is at most 2vs
products_below : (u v r s : ℕ) → u * u ≤ 2 * (v * v) → r * r ≤ 2 * (s * s) → u * r ≤ 2 * (v * s)
products_below u v r s h k =
    let both : (u * u) * (r * r) ≤ (2 * (v * v)) * (2 * (s * s)) = mul-le-mul h k in
    root_at_most (u * r) (2 * (v * s)) (omega arith)

-- from u ≥ v√2 and r ≥ s√2: u times r is at least 2vs
products_above : (u v r s : ℕ) → 2 * (v * v) ≤ u * u → 2 * (s * s) ≤ r * r → 2 * (v * s) ≤ u * r
products_above u v r s h k =
    let both : (2 * (v * v)) * (2 * (s * s)) ≤ (u * u) * (r * r) = mul-le-mul h k in
    root_at_most (2 * (v * s)) (u * r) (omega arith)

-- from u ≤ v√2 and r < s√2: u + r < (v + s)√2
pub sums_below : (u v r s : ℕ) → u * u ≤ 2 * (v * v) → r * r < 2 * (s * s)
    → (u + r) * (u + r) < 2 * ((v + s) * (v + s))
sums_below u v r s h k = grind (arith, nat_tests, products_below)

-- from u ≥ v√2 and r > s√2: u + r > (v + s)√2
pub sums_above : (u v r s : ℕ) → 2 * (v * v) ≤ u * u → 2 * (s * s) < r * r
    → 2 * ((v + s) * (v + s)) < (u + r) * (u + r)
sums_above u v r s h k = grind (arith, nat_tests, products_above)

-- a number is twice its half, or one more
halves : (x : ℕ) → (x ≡ 2 * (x / 2)) ⊎ (x ≡ 2 * (x / 2) + 1)
halves x = grind arith

-- a number whose square is even is even
even_root : (x n : ℕ) → x * x ≡ 2 * n → x ≡ 2 * (x / 2)
even_root x n h = elim (halves x) [ inl even ↦ even | inr odd ↦ absurd (no_odd (x / 2) odd) ]
  where
    no_odd : (k : ℕ) → x ≡ 2 * k + 1 → ⊥
    no_odd k odd = let e : (2 * k + 1) * (2 * k + 1) ≡ 2 * n = rw odd at h in omega arith

-- from a root x / y of 2 comes a lesser one
lesser_root : (x y : ℕ) → 0 < y → x * x ≡ 2 * (y * y) → (y * y ≡ 2 * ((x / 2) * (x / 2))) × (x / 2 < y)
lesser_root x y some h =
    let even : x ≡ 2 * (x / 2) = even_root x (y * y) h in
    let e : (2 * (x / 2)) * (2 * (x / 2)) ≡ 2 * (y * y) = rw even at h in
    let positive : 0 < y * y = square_positive y some in
    (omega arith, root_below (x / 2) y (omega arith))

-- so there is no least one, and none at all
no_root : (fuel x y : ℕ) → y < fuel → x * x ≡ 2 * (y * y) → y ≡ 0
no_root zero x y l h = absurd (omega arith)
no_root (suc fuel) x y l h = elim (zero_or y) [
  | inl none ↦ none
  | inr some ↦
      (let lesser : (y * y ≡ 2 * ((x / 2) * (x / 2))) × (x / 2 < y) = lesser_root x y some h in
      let none : x / 2 ≡ 0 = no_root fuel y (x / 2) (omega arith) lesser.0 in
      let gone : y * y ≡ 2 * (0 * 0) = rw none at lesser.0 in
      let positive : 0 < y * y = square_positive y some in
      absurd (omega arith))
]
  where
    zero_or : (n : ℕ) → (n ≡ 0) ⊎ (0 < n)
    zero_or n = grind arith

-- √2 is irrational: only 0 is twice a square and a square
pub irrational : (x y : ℕ) → x * x ≡ 2 * (y * y) → y ≡ 0
irrational x y h = no_root (suc y) x y (omega arith) h
