-- The whole number nearest to a cost, and the whole fours in it.
use Rattle.std.proofs.lemmas.Bool.Decides.{nat_tests}
use Rattle.std.proofs.Common.{◌≡◌, ℕ, zero, suc, ◌+◌, ◌-◌, ◌*◌, ◌/◌, ◌^◌, ◌<◌, ◌≤◌, ◌⊎◌, inl, inr}
use Rattle.std.proofs.Common.{arith, refl, ap, sym, ◌∙◌, subst, Bool, true, false}
use Rattle.std.specs.Prelude.{ℤ, pos, ◌-ℤ◌, if◌then◌else◌}
use Rattle.std.proofs.lemmas.Int.{ints}
use Rattle.root2_cost.specs.declared.Cost.{Cost}
use Rattle.root2_cost.specs.declared.Signed.{Signed}
use Rattle.root2_cost.specs.declared.lengths.Decimal.{Decimal}
use Rattle.root2_cost.specs.declared.lengths.Verdict.TheVariants.{Agree}
use Rattle.root2_cost.specs.Order.{is_positive, is_less, IsLess, IsAtMost}
use Rattle.root2_cost.specs.Signed.{opposite, lowered, IsSignedLess, IsSignedAtMost}
use Rattle.root2_cost.specs.Sums.{add_costs}
use Rattle.root2_cost.specs.Verdict.{excess_of, verdict_of}
use Rattle.root2_cost.specs.Length.{eight_places, distance_to, IsNearest, fours, IsBucket}
use Rattle.root2_cost.proofs.Squares.{square_grows, irrational}
use Rattle.root2_cost.proofs.Gaps.{both, first, second}
use Rattle.root2_cost.proofs.Less.{gap_less, same_cost, IsLess-irreflexive, IsLess-trans, IsLess-asymmetric}
use Rattle.root2_cost.proofs.AtMost.{less_at_most, IsAtMost-or_more, IsAtMost-not_more}
use Rattle.root2_cost.proofs.AtMost.{less_then_at_most, at_most_then_less, IsAtMost-trans, same_at_most}
use Rattle.root2_cost.proofs.AtMost.{at_most_by_parts, at_most_by_counts}
use Rattle.root2_cost.proofs.Sums.{IsLess-add_left, IsLess-add_right, IsAtMost-add, IsAtMost-add_right}
use Rattle.root2_cost.proofs.Sums.{IsLess-cancel_right}
use Rattle.root2_cost.proofs.Differences.{Is, less_is, signed_less-at_most, signed_at_most-refl}

-- so many straight moves
abbrev whole : ℕ → Cost
whole n = record { a = n; b = 0 }

abbrev twice : Cost → Cost
twice p = add_costs p p

abbrev one_more : Cost → Cost
one_more p = add_costs p (whole 1)

-- a cost in units of the eighth decimal
abbrev scaled : Cost → Cost
scaled cost = record { a = 10 ^ 8 * cost.a; b = 10 ^ 8 * cost.b }

twice_less : (p q : Cost) → IsLess p q → IsLess (twice p) (twice q)
twice_less p q h =
    IsLess-trans (twice p) (add_costs p q) (twice q) (IsLess-add_left p p q h) (IsLess-add_right q p q h)

-- n and v differ by less than a half
pub record IsHalf (n : ℕ) (v : Cost) : Type 0 where
  pub over : IsLess (twice (whole n)) (one_more (twice v))
  pub under : IsLess (twice v) (one_more (twice (whole n)))

-- with s for the root of 8k², rounded down, such a number is found
half_over : (a k s t : ℕ) → s * s ≤ 8 * (k * k) → 2 * t ≤ s + 1
    → IsLess (twice (whole (a + t))) (one_more (twice (record { a = a; b = k })))
half_over a k s zero h l =
    gap_less (twice (whole (a + zero))) (one_more (twice (record { a = a; b = k })))
    (both 1 (k + k) (omega arith) (omega arith) (omega arith))
half_over a k s (suc t) h l =
    let most : (2 * t + 1) * (2 * t + 1) ≤ s * s = square_grows (2 * t + 1) s (omega arith) in
    gap_less (twice (whole (a + suc t))) (one_more (twice (record { a = a; b = k })))
    (second (2 * t + 1) (k + k) (omega arith) (omega arith) (omega arith))

half_under : (a k s t : ℕ) → 8 * (k * k) < (s + 1) * (s + 1) → s ≤ 2 * t
    → IsLess (twice (record { a = a; b = k })) (one_more (twice (whole (a + t))))
half_under a k s t h l =
    let most : (s + 1) * (s + 1) ≤ (2 * t + 1) * (2 * t + 1) =
    square_grows (s + 1) (2 * t + 1) (omega arith) in
    gap_less (twice (record { a = a; b = k })) (one_more (twice (whole (a + t))))
    (first (2 * t + 1) (k + k) (omega arith) (omega arith) (omega arith))

pub half_is : (a k s : ℕ) → s * s ≤ 8 * (k * k) → 8 * (k * k) < (s + 1) * (s + 1)
    → IsHalf (a + (s + 1) / 2) (record { a = a; b = k })
half_is a k s h i = grind (arith, nat_tests, half_over, half_under)

-- each number has a root, rounded down
root_of : (x : ℕ) → (s : ℕ) × (s * s ≤ x) × (x < (s + 1) * (s + 1))
root_of zero = (0, omega arith, omega arith)
root_of (suc x) =
    let r = root_of x in
    elim (next (suc x) ((r.0 + 1) * (r.0 + 1))) [
      | inl less ↦ (r.0, (let l = r.1 in omega arith), less)
      | inr most ↦ (r.0 + 1, most, (let l = r.2 in omega arith))
    ]
  where
    next : (m n : ℕ) → (m < n) ⊎ (n ≤ m)
    next m n = grind arith

half_exists : (v : Cost) → (n : ℕ) × IsHalf n v
half_exists v =
    let r = root_of (8 * (v.b * v.b)) in
    (v.a + (r.0 + 1) / 2, half_is v.a v.b r.0 r.1 r.2)

-- the order of whole numbers is that of costs
whole_less : (m n : ℕ) → IsLess (whole m) (whole n) → m < n
whole_less m n h = grind (arith, nat_tests)

less_whole : (m n : ℕ) → m < n → IsLess (whole m) (whole n)
less_whole m n h = gap_less (whole m) (whole n) (both (n - m) 0 (omega arith) (omega arith) (omega arith))

-- a length of eight decimals has so many units more than a cost, or so many less
module _ (cost : Cost) where
  abbrev value : Cost
  value = scaled cost

  abbrev far : ℕ → Signed
  far n = distance_to cost (eight_places n)

  excess_is : (n : ℕ) → Is (excess_of (eight_places n) cost) (whole n) (scaled cost)
  excess_is n = record { a = refl; b = omega (arith, ints) }

  opposite_is : (n : ℕ) → Is (opposite (excess_of (eight_places n) cost)) (scaled cost) (whole n)
  opposite_is n = record { a = omega (arith, ints); b = omega (arith, ints) }

  is_below : (n : ℕ) → is_positive (opposite (excess_of (eight_places n) cost)).a
      (opposite (excess_of (eight_places n) cost)).b ≡ is_less (whole n) (scaled cost)
  is_below n = grind (arith, nat_tests, opposite_is)

  chosen : (t : Bool) (p q : Signed) (x y z w : Cost) → t ≡ true → Is p x y → Is (if t then p else q) x y
  chosen t p q x y z w h i = grind (arith, nat_tests)

  other : (t : Bool) (p q : Signed) (x y : Cost) → t ≡ false → Is q x y → Is (if t then p else q) x y
  other t p q x y h i = grind (arith, nat_tests)

  far_below : (n : ℕ) → IsLess (whole n) (scaled cost)
      → Is (distance_to cost (eight_places n)) (scaled cost) (whole n)
  far_below n h = chosen _ _ _ _ _ (whole 0) (whole 0) (is_below n ∙ h) (opposite_is n)

  far_above : (n : ℕ) → IsAtMost (scaled cost) (whole n)
      → Is (distance_to cost (eight_places n)) (whole n) (scaled cost)
  far_above n h = other _ _ _ _ _ (is_below n ∙ h) (excess_is n)

  -- a number within a half is nearer than any other
  module _ (n : ℕ) (half : IsHalf n (scaled cost)) where
    nearer : (m : ℕ) → (m < n) ⊎ (n < m) → IsSignedLess (far n) (far m)
    nearer m h = elim (IsAtMost-or_more value (whole n)) [
      | inl n_above ↦ elim (IsAtMost-or_more value (whole m)) [
        | inl m_above ↦ less_is (far n) (far m) _ _ _ _ (far_above n n_above) (far_above m m_above)
            ∙ both_above m_above h
        | inr m_below ↦ less_is (far n) (far m) _ _ _ _ (far_above n n_above) (far_below m m_below)
            ∙ between_down n_above m_below
      ]
      | inr n_below ↦ elim (IsAtMost-or_more value (whole m)) [
        | inl m_above ↦ less_is (far n) (far m) _ _ _ _ (far_below n n_below) (far_above m m_above)
            ∙ between_up n_below m_above
        | inr m_below ↦ less_is (far n) (far m) _ _ _ _ (far_below n n_below) (far_below m m_below)
            ∙ both_below m_below h
      ]
    ]
      where
        both_above : IsAtMost value (whole m) → (m < n) ⊎ (n < m)
            → IsLess (add_costs (whole n) value) (add_costs (whole m) value)
        both_above above (inr more) =
            IsLess-add_right value (whole n) (whole m) (less_whole n m more)
        both_above above (inl less) =
            let up : IsAtMost (one_more (twice value)) (one_more (twice (whole m))) =
            IsAtMost-add_right (whole 1) (twice value) (twice (whole m))
            (IsAtMost-add value (whole m) value (whole m) above above) in
            let back : IsAtMost (one_more (twice (whole m))) (twice (whole n)) =
            at_most_by_parts (one_more (twice (whole m))) (twice (whole n)) (omega arith) (omega arith) in
            absurd (IsLess-irreflexive (twice (whole n))
            (less_then_at_most (twice (whole n)) (one_more (twice value)) (twice (whole n)) half.over
            (IsAtMost-trans (one_more (twice value)) (one_more (twice (whole m)))
            (twice (whole n)) up back)))

        both_below : IsLess (whole m) value → (m < n) ⊎ (n < m)
            → IsLess (add_costs value (whole m)) (add_costs value (whole n))
        both_below below (inl less) =
            IsLess-add_left value (whole m) (whole n) (less_whole m n less)
        both_below below (inr more) =
            let up : IsAtMost (one_more (twice (whole n))) (twice (whole m)) =
            at_most_by_parts (one_more (twice (whole n))) (twice (whole m)) (omega arith) (omega arith) in
            absurd (IsLess-asymmetric (twice value) (twice (whole m))
            (less_then_at_most (twice value) (one_more (twice (whole n))) (twice (whole m)) half.under up)
            (twice_less (whole m) value below))

        between_up : IsLess (whole n) value → IsAtMost value (whole m)
            → IsLess (add_costs value value) (add_costs (whole m) (whole n))
        between_up below above =
            let less : n < m = whole_less n m (less_then_at_most (whole n) value (whole m) below above) in
            less_then_at_most (twice value) (one_more (twice (whole n))) (add_costs (whole m) (whole n))
            half.under (at_most_by_parts (one_more (twice (whole n))) (add_costs (whole m) (whole n))
            (omega arith) (omega arith))

        between_down : IsAtMost value (whole n) → IsLess (whole m) value
            → IsLess (add_costs (whole n) (whole m)) (add_costs value value)
        between_down above below =
            let less : m < n = whole_less m n (less_then_at_most (whole m) value (whole n) below above) in
            IsLess-cancel_right (whole 1) (add_costs (whole n) (whole m)) (twice value)
            (at_most_then_less (one_more (add_costs (whole n) (whole m))) (twice (whole n))
            (one_more (twice value))
            (at_most_by_parts (one_more (add_costs (whole n) (whole m))) (twice (whole n)) (omega arith)
            (omega arith)) half.over)

    pub nearest_of_half : IsNearest cost (eight_places n)
    nearest_of_half = record { places = refl; nearest = at_most }
      where
        at_most : (m : ℕ) → IsSignedAtMost (far n) (far m)
        at_most m = elim (apart m n) [
          | inl same ↦ subst (λ (k : ℕ). IsSignedAtMost (far n) (far k)) (sym same)
              (signed_at_most-refl (far n))
          | inr differ ↦ signed_less-at_most (far n) (far m) (nearer m differ)
        ]
          where
            apart : (m n : ℕ) → (m ≡ n) ⊎ (m < n) ⊎ (n < m)
            apart m n = grind arith

  -- and the only one that is nearest is within a half
  nearest_same : (n m : ℕ) → IsHalf n (scaled cost) → IsNearest cost (eight_places m) → m ≡ n
  nearest_same n m half nearest = elim (apart m n) [
    | inl same ↦ same
    | inr differ ↦ absurd (
        let less : IsSignedLess (far n) (far m) = nearer n half m differ in
        let most : IsSignedAtMost (far m) (far n) = nearest.nearest n in
        cc)
  ]
    where
      apart : (m n : ℕ) → (m ≡ n) ⊎ (m < n) ⊎ (n < m)
      apart m n = grind arith

  -- a length of eight places
  placed : (length : Decimal) → length.places ≡ 8 → length ≡ eight_places length.digits
  placed length e = ap (λ (k : ℕ). let d : Decimal = record { digits = length.digits; places = k } in d) e

  pub nearest_half : (length : Decimal) → IsNearest cost length → IsHalf length.digits (scaled cost)
  nearest_half length nearest =
      let there = half_exists (scaled cost) in
      let near : IsNearest cost (eight_places length.digits) =
      subst (λ (d : Decimal). IsNearest cost d) (placed length nearest.places) nearest in
      subst (λ (k : ℕ). IsHalf k (scaled cost))
      (sym (nearest_same there.0 length.digits there.1 near)) there.1

  pub nearest_one : (p q : Decimal) → IsNearest cost p → IsNearest cost q → p ≡ q
  nearest_one p q g h =
      let near : IsNearest cost (eight_places q.digits) =
      subst (λ (d : Decimal). IsNearest cost d) (placed q h.places) h in
      let same : q.digits ≡ p.digits = nearest_same p.digits q.digits (nearest_half p g) near in
      placed p g.places ∙ ap eight_places (sym same) ∙ sym (placed q h.places)

  -- it differs by at most one unit
  not_over : (n : ℕ) → IsHalf n (scaled cost) → IsAtMost (whole n) (one_more value)
  not_over n half = elim (IsAtMost-or_more (whole n) (one_more value)) [
    | inl most ↦ most
    | inr more ↦ absurd (IsLess-asymmetric (twice (one_more value)) (twice (whole n))
        (twice_less (one_more value) (whole n) more)
        (less_then_at_most (twice (whole n)) (one_more (twice value)) (twice (one_more value))
        half.over (at_most_by_parts (one_more (twice value)) (twice (one_more value))
        (omega arith) (omega arith))))
  ]

  not_under : (n : ℕ) → IsHalf n (scaled cost) → IsAtMost value (one_more (whole n))
  not_under n half = elim (IsAtMost-or_more value (one_more (whole n))) [
    | inl most ↦ most
    | inr more ↦ absurd (IsLess-asymmetric (twice (one_more (whole n))) (twice value)
        (twice_less (one_more (whole n)) value more)
        (less_then_at_most (twice value) (one_more (twice (whole n)))
        (twice (one_more (whole n))) half.under
        (at_most_by_parts (one_more (twice (whole n))) (twice (one_more (whole n)))
        (omega arith) (omega arith))))
  ]

  one_less : (s : Signed) (p q : Cost) → Is s p q → IsAtMost p (one_more q)
      → is_positive (lowered s 1).a (lowered s 1).b ≡ false
  one_less s p q i h =
      let a : (lowered s 1).a ≡ pos p.a -ℤ pos (q.a + 1) = omega (arith, ints, i.a) in
      let b : (lowered s 1).b ≡ pos p.b -ℤ pos (q.b + 0) = omega (arith, ints, i.b) in
      ap (λ (z : ℤ). is_positive z (lowered s 1).b) a
      ∙ ap (λ (z : ℤ). is_positive (pos p.a -ℤ pos (q.a + 1)) z) b ∙ h

  pub half_agrees : (n : ℕ) → IsHalf n (scaled cost) → verdict_of (eight_places n) cost ≡ Agree
  half_agrees n half =
      let up = one_less (excess_of (eight_places n) cost) (whole n) value (excess_is n) (not_over n half) in
      let down = one_less (opposite (excess_of (eight_places n) cost)) value (whole n) (opposite_is n)
      (not_under n half) in
      rw (up, down) refl

  pub nearest_agrees : (length : Decimal) → IsNearest cost length → verdict_of length cost ≡ Agree
  nearest_agrees length nearest = grind (arith, nat_tests, placed, half_agrees, nearest_half)

  -- and the cost is at most three times the greater of its counts
  pub nearest_short : (length : Decimal) → IsNearest cost length → cost.a ≤ 2 ^ 24 → cost.b ≤ 2 ^ 24
      → length.digits < 10 ^ 16
  nearest_short length nearest g h =
      let most : IsAtMost (whole length.digits) (one_more value) =
      not_over length.digits (nearest_half length nearest) in
      let least : IsAtMost (one_more value) (whole (3 * (10 ^ 8 * 2 ^ 24) + 1)) =
      at_most_by_counts (one_more value) (whole (3 * (10 ^ 8 * 2 ^ 24) + 1))
      (omega arith) (omega arith) in
      elim (below length.digits (3 * (10 ^ 8 * 2 ^ 24) + 2)) [
        | inl short ↦ omega arith
        | inr long ↦ absurd (IsAtMost-not_more (whole length.digits) (whole (3 * (10 ^ 8 * 2 ^ 24) + 1))
            (IsAtMost-trans (whole length.digits) (one_more value) (whole (3 * (10 ^ 8 * 2 ^ 24) + 1))
            most least)
            (less_whole (3 * (10 ^ 8 * 2 ^ 24) + 1) length.digits (omega arith)))
      ]
    where
      below : (m n : ℕ) → (m < n) ⊎ (n ≤ m)
      below m n = grind arith

-- straight moves at most a cost, where the root of twice the square of its diagonal ones, rounded down, is r
root_at_most : (a b r : ℕ) → r * r ≤ 2 * (b * b) → IsAtMost (whole (a + r)) (record { a = a; b = b })
root_at_most a b r h =
    grind (arith, nat_tests, less_at_most, gap_less, second, irrational, same_at_most, same_cost)

root_below_next : (a b r : ℕ) → 2 * (b * b) < (r + 1) * (r + 1)
    → IsLess (record { a = a; b = b }) (whole (a + r + 1))
root_below_next a b r h = grind (arith, nat_tests)

pub bucket_is : (cost : Cost) (r : ℕ) → r * r ≤ 2 * (cost.b * cost.b)
    → 2 * (cost.b * cost.b) < (r + 1) * (r + 1) → IsBucket cost ((cost.a + r) / 4)
bucket_is cost r h g = record {
  at_least = IsAtMost-trans (fours ((cost.a + r) / 4)) (whole (cost.a + r)) cost
      (at_most_by_parts (fours ((cost.a + r) / 4)) (whole (cost.a + r)) (omega arith) (omega arith))
      (root_at_most cost.a cost.b r h);
  below = less_then_at_most cost (whole (cost.a + r + 1)) (fours ((cost.a + r) / 4 + 1))
      (root_below_next cost.a cost.b r g)
      (at_most_by_parts (whole (cost.a + r + 1)) (fours ((cost.a + r) / 4 + 1)) (omega arith) (omega arith));
}

pub bucket_one : (cost : Cost) (p q : ℕ) → IsBucket cost p → IsBucket cost q → p ≡ q
bucket_one cost p q g h = grind (arith, nat_tests)

-- each cost has a nearest length and a bucket
pub nearest_exists : (cost : Cost) → (n : ℕ) × IsNearest cost (eight_places n)
nearest_exists cost = let h = half_exists (scaled cost) in (h.0, nearest_of_half cost h.0 h.1)

pub bucket_exists : (cost : Cost) → (n : ℕ) × IsBucket cost n
bucket_exists cost =
    let r = root_of (2 * (cost.b * cost.b)) in ((cost.a + r.0) / 4, bucket_is cost r.0 r.1 r.2)
