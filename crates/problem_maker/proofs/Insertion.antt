-- What is made by putting each element in its place is in order, and elements that tie stay as they stood.
use Rattle.std.proofs.Common.{◌≡◌, ℕ, zero, suc, ◌+◌, ◌<◌, ◌≤◌, ◌∙◌, refl, ap, sym, subst, arith, Bool}
use Rattle.std.proofs.Common.{true, false, List, [], ◌∷◌, length, get_or, cond}
use Rattle.std.specs.Prelude.{⊤}
use Rattle.std.specs.Cmp.{IsStrictWeakOrder}
use Rattle.std.specs.List.{filter}
use Rattle.std.specs.List.Sorted.{IsPermutation, IsSortedBy, IsStableBy, ties}
use Rattle.std.proofs.lemmas.List.Sorted.{IsPermutation-cons, IsPermutation-middle, IsPermutation-refl}
use Rattle.std.proofs.lemmas.List.Sorted.{IsPermutation-trans}
use Rattle.problem_maker.specs.Laws.{OrderIs}
use Rattle.problem_maker.specs.Ordered.{in_order, in_order_by, is_cheaper, placed}
use Rattle.problem_maker.proofs.Stable.{cheaper_ranks, one_order}

module _ {X : Type 0} (lt : X → X → Bool) (ranks : IsStrictWeakOrder lt) where
  -- the elements stay
  placed_same : (x : X) (ys : List X) → IsPermutation (x ∷ ys) (placed lt x ys)
  placed_same x [] = IsPermutation-refl (x ∷ [])
  placed_same x (y ∷ ys) = by_test (lt y x) (placed_same x ys)
    where
      by_test : (b : Bool) → IsPermutation (x ∷ ys) (placed lt x ys)
          → IsPermutation (x ∷ y ∷ ys) (cond b (y ∷ placed lt x ys) (x ∷ y ∷ ys))
      by_test true same =
          IsPermutation-trans (x ∷ y ∷ ys) (y ∷ x ∷ ys) (y ∷ placed lt x ys)
          (IsPermutation-middle (x ∷ []) y ys) (IsPermutation-cons y (x ∷ ys) (placed lt x ys) same)
      by_test false same = IsPermutation-refl (x ∷ y ∷ ys)

  order_same : (xs : List X) → IsPermutation xs (in_order_by lt xs)
  order_same [] = IsPermutation-refl []
  order_same (x ∷ xs) = IsPermutation-trans (x ∷ xs) (x ∷ in_order_by lt xs) (placed lt x (in_order_by lt xs))
      (IsPermutation-cons x xs (in_order_by lt xs) (order_same xs)) (placed_same x (in_order_by lt xs))

  -- the first of a list is not less than an element
  abbrev Follows : X → List X → Type 0
  Follows x [] = ⊤
  Follows x (y ∷ ys) = lt y x ≡ false

  abbrev Rises : List X → Type 0
  Rises [] = ⊤
  Rises (x ∷ xs) = Follows x xs × Rises xs

  placed_follows : (z x : X) (ys : List X) → lt x z ≡ false → Follows z ys → Follows z (placed lt x ys)
  placed_follows z x [] e f = e
  placed_follows z x (y ∷ ys) e f = by_test (lt y x)
    where
      by_test : (b : Bool) → Follows z (cond b (y ∷ placed lt x ys) (x ∷ y ∷ ys))
      by_test true = f
      by_test false = e

  placed_rises : (x : X) (ys : List X) → Rises ys → Rises (placed lt x ys)
  placed_rises x [] r = (tt, tt)
  placed_rises x (y ∷ ys) r = by_test (lt y x) refl (placed_rises x ys r.1)
    where
      by_test : (b : Bool) → lt y x ≡ b → Rises (placed lt x ys)
          → Rises (cond b (y ∷ placed lt x ys) (x ∷ y ∷ ys))
      by_test true e later = (placed_follows y x ys (ranks.one_way y x e) r.0, later)
      by_test false e later = (e, r)

  order_rises : (xs : List X) → Rises (in_order_by lt xs)
  order_rises [] = tt
  order_rises (x ∷ xs) = placed_rises x (in_order_by lt xs) (order_rises xs)

  rises_sorted : (xs : List X) → Rises xs → (k : ℕ) (d : X) → 0 ≤ k → k + 1 < length xs
      → lt (get_or xs (k + 1) d) (get_or xs k d) ≡ false
  rises_sorted [] r k d low high = absurd (omega arith)
  rises_sorted (x ∷ []) r k d low high = absurd (omega arith)
  rises_sorted (x ∷ y ∷ ys) r zero d low high = r.0
  rises_sorted (x ∷ y ∷ ys) r (suc k) d low high =
      let place : suc (k + 1) ≡ suc k + 1 = omega arith in
      subst (λ (n : ℕ). lt (get_or (x ∷ y ∷ ys) n d) (get_or (y ∷ ys) k d) ≡ false) place
      (rises_sorted (y ∷ ys) r.1 k d (omega arith) (omega arith))

  order_sorted : (xs : List X) → IsSortedBy lt (in_order_by lt xs)
  order_sorted xs = rises_sorted (in_order_by lt xs) (order_rises xs)

  -- those that tie with an element stay in their order
  untied : (z x y : X) → lt y x ≡ true → ties lt z y ≡ true → ties lt z x ≡ true → ⊥
  untied z x y less one other = by_tests (lt z y) (lt y z) (lt z x) (lt x z) refl refl refl refl one other
    where
      by_tests : (a b c d : Bool) → lt z y ≡ a → lt y z ≡ b → lt z x ≡ c → lt x z ≡ d
          → ties lt z y ≡ true → ties lt z x ≡ true → ⊥
      by_tests true b c d e f g h one other = let no = rw e at one in cc
      by_tests false true c d e f g h one other = let no = rw (e, f) at one in cc
      by_tests false false true d e f g h one other = let no = rw g at other in cc
      by_tests false false false d e f g h one other = let k = ranks.chain y z x f g in cc

  placed_stable : (z x : X) (ys : List X)
      → filter (ties lt z) (placed lt x ys) ≡ filter (ties lt z) (x ∷ ys)
  placed_stable z x [] = refl
  placed_stable z x (y ∷ ys) = by_test (lt y x) refl (placed_stable z x ys)
    where
      swapped : (a b : Bool) → ties lt z y ≡ a → ties lt z x ≡ b → lt y x ≡ true
          → filter (ties lt z) (placed lt x ys) ≡ cond b (x ∷ filter (ties lt z) ys) (filter (ties lt z) ys)
          → cond a (y ∷ filter (ties lt z) (placed lt x ys)) (filter (ties lt z) (placed lt x ys))
          ≡ cond b (x ∷ cond a (y ∷ filter (ties lt z) ys) (filter (ties lt z) ys))
          (cond a (y ∷ filter (ties lt z) ys) (filter (ties lt z) ys))
      swapped true true e f less later = absurd (untied z x y less e f)
      swapped true false e f less later = ap (λ (l : List X). y ∷ l) later
      swapped false true e f less later = later
      swapped false false e f less later = later

      by_test : (b : Bool) → lt y x ≡ b
          → filter (ties lt z) (placed lt x ys) ≡ filter (ties lt z) (x ∷ ys)
          → filter (ties lt z) (cond b (y ∷ placed lt x ys) (x ∷ y ∷ ys)) ≡ filter (ties lt z) (x ∷ y ∷ ys)
      by_test true less later = swapped (ties lt z y) (ties lt z x) refl refl less later
      by_test false less later = refl

  order_stable : (xs : List X) → IsStableBy lt xs (in_order_by lt xs)
  order_stable [] = λ z. refl
  order_stable (x ∷ xs) = λ z. placed_stable z x (in_order_by lt xs)
      ∙ by_first z (ties lt z x) (order_stable xs z)
    where
      by_first : (z : X) (b : Bool) → filter (ties lt z) (in_order_by lt xs) ≡ filter (ties lt z) xs
          → cond b (x ∷ filter (ties lt z) (in_order_by lt xs)) (filter (ties lt z) (in_order_by lt xs))
          ≡ cond b (x ∷ filter (ties lt z) xs) (filter (ties lt z) xs)
      by_first z true e = ap (λ (l : List X). x ∷ l) e
      by_first z false e = e

-- so problems have one order
pub order_is : OrderIs in_order
order_is before = record {
  is = record {
    same = order_same is_cheaper cheaper_ranks before;
    rising = order_sorted is_cheaper cheaper_ranks before;
    stable = order_stable is_cheaper cheaper_ranks before;
  };
  only = λ other a. one_order is_cheaper cheaper_ranks other (in_order before) a.rising
      (order_sorted is_cheaper cheaper_ranks before)
      (λ x. a.stable x ∙ sym (order_stable is_cheaper cheaper_ranks before x));
}
