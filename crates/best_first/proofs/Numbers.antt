-- Numbers of which no two are equal are at most as many as there are below their bound.
use Rattle.std.proofs.Common.{◌≡◌, ℕ, zero, suc, ◌<◌, ◌≤◌, length, List, [], ◌∷◌, refl, ap, subst, Bool, true}
use Rattle.std.proofs.Common.{false, ◌||◌, arith, map, eqb}
use Rattle.std.specs.Prelude.{Some, slice_get}
use Rattle.std.proofs.lemmas.List.{length-map}
use Rattle.std.proofs.lemmas.Option.{same_Some}
use Rattle.std.specs.List.{IsDistinct, AllByRecursion, list_any}
use Rattle.std.proofs.lemmas.Map.Steps.{length-le_from_distinct_below}
use Rattle.std.proofs.lemmas.Bool.Decides.{nat_tests}

pub differ : (m n : ℕ) → (m ≡ n → ⊥) → eqb m n ≡ false
differ m n h = grind (arith, nat_tests)

pub any_is : (xs : List ℕ) (q : ℕ) → list_any (eqb q) xs ≡ true → (i : ℕ) × (slice_get xs i ≡ Some q)
any_is [] q h = absurd (cc)
any_is (x ∷ xs) q h = by_test (any_is xs q) (eqb q x) refl h
  where
    by_test : (list_any (eqb q) xs ≡ true → (i : ℕ) × (slice_get xs i ≡ Some q)) → (b : Bool) → eqb q x ≡ b
        → (b || list_any (eqb q) xs) ≡ true → (i : ℕ) × (slice_get (x ∷ xs) i ≡ Some q)
    by_test again true e h = (0, ap (λ (v : ℕ). Some v) (let s : x ≡ q = grind (arith, nat_tests) in s))
    by_test again false e h = let r = again h in (suc r.0, r.1)

-- no two elements have one number
abbrev pub AreApart : {X : Type 0} → (X → ℕ) → List X → Type 0
AreApart {X} f xs = (i j : ℕ) (a b : X) → slice_get xs i ≡ Some a → slice_get xs j ≡ Some b
    → f a ≡ f b → i ≡ j

module _ {X : Type 0} (f : X → ℕ) where
  get-map : (xs : List X) (i b : ℕ) → slice_get (map f xs) i ≡ Some b
      → (x : X) × (slice_get xs i ≡ Some x) × (f x ≡ b)
  get-map [] i b h = absurd (cc)
  get-map (x ∷ xs) zero b h = grind (arith, nat_tests, same_Some)
  get-map (x ∷ xs) (suc i) b h = get-map xs i b h

  all_differ : (x : X) (ys : List X) → ((j : ℕ) (y : X) → slice_get ys j ≡ Some y → f x ≡ f y → ⊥)
      → AllByRecursion (λ n. eqb (f x) n ≡ false) (map f ys)
  all_differ x [] n = tt
  all_differ x (y ∷ ys) n =
      (differ (f x) (f y) (λ e. n 0 y refl e), all_differ x ys (λ j z g e. n (suc j) z g e))

  distinct_from : (xs : List X) → AreApart f xs → IsDistinct eqb (map f xs)
  unfolding IsDistinct
  distinct_from [] h = tt
  distinct_from (x ∷ xs) h = (
    all_differ x xs (λ j y g e. let c : 0 ≡ suc j = h 0 (suc j) x y refl g e in omega arith),
    distinct_from xs (λ i j a b g k e. let c : suc i ≡ suc j = h (suc i) (suc j) a b g k e in omega arith),
  )

  pub at_most : (xs : List X) (n : ℕ) → AreApart f xs → ((i : ℕ) (x : X) → slice_get xs i ≡ Some x → f x < n)
      → length xs ≤ n
  at_most xs n apart below = subst (λ m. m ≤ n) (length-map xs f)
      (length-le_from_distinct_below (map f xs) n (distinct_from xs apart) (λ q h.
      let i = any_is (map f xs) q h in
      let x = get-map xs i.0 q i.1 in
      subst (λ v. v < n) x.2 (below i.0 x.0 x.1)))
