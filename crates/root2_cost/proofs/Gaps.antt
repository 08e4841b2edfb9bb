-- The order a + b√2 < c + d√2 on whole numbers, with the differences of the parts as witnesses.
use Rattle.std.proofs.lemmas.Bool.Decides.{nat_tests}
use Rattle.std.proofs.Common.{◌≡◌, ℕ, suc, zero, ◌+◌, ◌*◌, ◌-◌, ◌<◌, ◌≤◌, ◌⊎◌, inl, inr, arith, ap}
use Rattle.root2_cost.proofs.Squares.{sums_below, sums_above, square_grows, square_positive, irrational}

-- a + b√2 is less than c + d√2: both parts rise, or the first rises by more than the second falls, or
-- the second rises by more than the first falls
pub data Gap : ℕ → ℕ → ℕ → ℕ → Type 0 where
  both : {a b c d : ℕ} (x y : ℕ) → c ≡ a + x → d ≡ b + y → 0 < x + y → Gap a b c d
  first : {a b c d : ℕ} (x y : ℕ) → c ≡ a + x → b ≡ d + y → 2 * (y * y) < x * x → Gap a b c d
  second : {a b c d : ℕ} (x y : ℕ) → a ≡ c + x → d ≡ b + y → x * x < 2 * (y * y) → Gap a b c d

-- how two numbers differ
pub differ : (m n : ℕ) → ((k : ℕ) × (n ≡ m + k)) ⊎ ((k : ℕ) × (m ≡ n + k) × (0 < k))
differ m n = elim (order m n) [
  | inl most ↦ inl (n - m, omega arith)
  | inr more ↦ inr (m - n, omega arith, omega arith)
]
  where
    order : (m n : ℕ) → (m ≤ n) ⊎ (n < m)
    order m n = grind arith

-- x is less than y√2, or more, or the squares are equal
pub compared : (x y : ℕ) → (x * x < 2 * (y * y)) ⊎ (2 * (y * y) < x * x) ⊎ (x * x ≡ 2 * (y * y))
compared x y = grind arith

-- a gap depends on the differences alone
pub Gap-moved : {k l m n : ℕ} (a b c d : ℕ) → Gap k l m n → a + m ≡ c + k → b + n ≡ d + l → Gap a b c d
Gap-moved a b c d (both x y p q r) s t = both x y (omega arith) (omega arith) r
Gap-moved a b c d (first x y p q r) s t = first x y (omega arith) (omega arith) r
Gap-moved a b c d (second x y p q r) s t = second x y (omega arith) (omega arith) r

-- a rise of both parts by x and y, then one of z with a fall of w
up_then_first : (x y z w : ℕ) → 2 * (w * w) < z * z → Gap 0 w (x + z) y
up_then_first x y z w h = elim (differ w y) [
  | inl k ↦ both (x + z) k.0 (omega arith) k.1 (let some : 0 < z = not_zero z h in omega arith)
  | inr k ↦
      (let less : k.0 * k.0 ≤ w * w = square_grows k.0 w (omega arith) in
      let more : z * z ≤ (x + z) * (x + z) = square_grows z (x + z) (omega arith) in
      first (x + z) k.0 (omega arith) k.1 (omega arith))
]
  where
    not_zero : (z : ℕ) → 2 * (w * w) < z * z → 0 < z
    not_zero zero h = absurd (omega arith)
    not_zero (suc z) h = omega arith

-- the same for the second part: then a fall of z with a rise of w
up_then_second : (x y z w : ℕ) → z * z < 2 * (w * w) → Gap z 0 x (y + w)
up_then_second x y z w h = elim (differ z x) [
  | inl k ↦ both k.0 (y + w) k.1 (omega arith) (let some : 0 < w = not_zero w h in omega arith)
  | inr k ↦
      (let less : k.0 * k.0 ≤ z * z = square_grows k.0 z (omega arith) in
      let more : w * w ≤ (y + w) * (y + w) = square_grows w (y + w) (omega arith) in
      second k.0 (y + w) k.1 (omega arith) (omega arith))
]
  where
    not_zero : (w : ℕ) → z * z < 2 * (w * w) → 0 < w
    not_zero zero h = absurd (omega arith)
    not_zero (suc w) h = omega arith

-- the first part rises by x as the second falls by y, then the first falls by z as the second rises by w
first_then_second : (x y z w : ℕ) → 2 * (y * y) < x * x → z * z < 2 * (w * w) → Gap z y x w
first_then_second x y z w h k = elim (differ z x) [
  | inl i ↦ elim (differ y w) [
    | inl j ↦ both i.0 j.0 i.1 j.1 (not_both_same i.0 j.0 i.1 j.1)
    | inr j ↦ first i.0 j.0 i.1 j.1 (more_first i.0 j.0 i.1 j.1)
  ]
  | inr i ↦ elim (differ y w) [
    | inl j ↦ second i.0 j.0 i.1 j.1 (more_second i.0 j.0 i.1 j.1)
    | inr j ↦ absurd (not_both_less i.0 j.0 i.1 j.1)
  ]
]
  where
    same_square : (m n : ℕ) → m ≡ n → m * m ≡ n * n
    same_square m n e = ap (λ k. k * k) e

    not_both_same : (i j : ℕ) → x ≡ z + i → w ≡ y + j → 0 < i + j
    not_both_same zero zero p q = absurd (
        let e : x * x ≡ z * z = same_square x z (omega arith) in
        let f : w * w ≡ y * y = same_square w y (omega arith) in
        omega arith)
    not_both_same (suc i) j p q = omega arith
    not_both_same zero (suc j) p q = omega arith

    more_first : (i j : ℕ) → x ≡ z + i → y ≡ w + j → 2 * (j * j) < i * i
    more_first i j p q =
        let e : (i + z) * (i + z) ≡ x * x = same_square (i + z) x (omega arith) in
        let f : (j + w) * (j + w) ≡ y * y = same_square (j + w) y (omega arith) in
        grind (arith, sums_below i j z w)

    more_second : (i j : ℕ) → z ≡ x + i → w ≡ y + j → i * i < 2 * (j * j)
    more_second i j p q =
        let e : (i + x) * (i + x) ≡ z * z = same_square (i + x) z (omega arith) in
        let f : (j + y) * (j + y) ≡ w * w = same_square (j + y) w (omega arith) in
        grind (arith, sums_above i j x y)

    not_both_less : (i j : ℕ) → z ≡ x + i → y ≡ w + j → ⊥
    not_both_less i j p q =
        let e : x * x ≤ z * z = square_grows x z (omega arith) in
        let f : w * w ≤ y * y = square_grows w y (omega arith) in
        omega arith

-- gaps join
pub Gap-trans : {a b c d e f : ℕ} → Gap a b c d → Gap c d e f → Gap a b e f
Gap-trans (both x y p q r) (both z w s t u) = both (x + z) (y + w) (omega arith) (omega arith) (omega arith)
Gap-trans {a} {b} {c} {d} {e} {f} (both x y p q r) (first z w s t u) =
    Gap-moved a b e f (up_then_first x y z w u) (omega arith) (omega arith)
Gap-trans {a} {b} {c} {d} {e} {f} (both x y p q r) (second z w s t u) =
    Gap-moved a b e f (up_then_second x y z w u) (omega arith) (omega arith)
Gap-trans {a} {b} {c} {d} {e} {f} (first x y p q r) (both z w s t u) =
    Gap-moved a b e f (up_then_first z w x y r) (omega arith) (omega arith)
Gap-trans (first x y p q r) (first z w s t u) =
    first (x + z) (y + w) (omega arith) (omega arith) (sums_above x y z w (omega arith) u)
Gap-trans {a} {b} {c} {d} {e} {f} (first x y p q r) (second z w s t u) =
    Gap-moved a b e f (first_then_second x y z w r u) (omega arith) (omega arith)
Gap-trans {a} {b} {c} {d} {e} {f} (second x y p q r) (both z w s t u) =
    Gap-moved a b e f (up_then_second z w x y r) (omega arith) (omega arith)
Gap-trans {a} {b} {c} {d} {e} {f} (second x y p q r) (first z w s t u) =
    Gap-moved a b e f (first_then_second z w x y u r) (omega arith) (omega arith)
Gap-trans (second x y p q r) (second z w s t u) =
    second (x + z) (y + w) (omega arith) (omega arith) (sums_below x y z w (omega arith) u)

-- no pair is less than itself
pub Gap-irreflexive : (a b : ℕ) → Gap a b a b → ⊥
Gap-irreflexive a b h = grind (arith, nat_tests)

-- the parts differ so, that x + y√2 takes one to the other, in one direction
pub Gap-total : (a b c d : ℕ) → Gap a b c d ⊎ Gap c d a b ⊎ ((a ≡ c) × (b ≡ d))
Gap-total a b c d = elim (differ a c) [
  | inl i ↦ elim (differ b d) [
    | inl j ↦ both_rise i.0 j.0 i.1 j.1
    | inr j ↦ second_falls i.0 j.0 i.1 j.1 j.2
  ]
  | inr i ↦ elim (differ b d) [
    | inl j ↦ first_falls i.0 j.0 i.1 j.1 i.2
    | inr j ↦ inr (inl (both i.0 j.0 i.1 j.1 (omega arith)))
  ]
]
  where
    both_rise : (i j : ℕ) → c ≡ a + i → d ≡ b + j → Gap a b c d ⊎ Gap c d a b ⊎ ((a ≡ c) × (b ≡ d))
    both_rise zero zero p q = inr (inr (omega arith, omega arith))
    both_rise (suc i) j p q = inl (both (suc i) j p q (omega arith))
    both_rise zero (suc j) p q = inl (both zero (suc j) p q (omega arith))

    second_falls : (i j : ℕ) → c ≡ a + i → b ≡ d + j → 0 < j → Gap a b c d ⊎ Gap c d a b ⊎ ((a ≡ c) × (b ≡ d))
    second_falls i j p q some = elim (compared i j) [
      | inl less ↦ inr (inl (second i j p q less))
      | inr (inl more) ↦ inl (first i j p q more)
      | inr (inr same) ↦ absurd (let none : j ≡ 0 = irrational i j same in omega arith)
    ]

    first_falls : (i j : ℕ) → a ≡ c + i → d ≡ b + j → 0 < i → Gap a b c d ⊎ Gap c d a b ⊎ ((a ≡ c) × (b ≡ d))
    first_falls i j p q some = elim (compared i j) [
      | inl less ↦ inl (second i j p q less)
      | inr (inl more) ↦ inr (inl (first i j p q more))
      | inr (inr same) ↦ absurd (
          let none : j ≡ 0 = irrational i j same in
          let e : i * i ≡ 2 * (0 * 0) = rw none at same in
          let positive : 0 < i * i = square_positive i some in
          omega arith)
    ]
