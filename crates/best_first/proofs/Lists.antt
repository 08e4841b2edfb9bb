-- Reading a list after an element was added or changed.
use Rattle.std.proofs.Common.{◌≡◌, ◌≢◌, ℕ, zero, suc, ◌⊎◌, inl, inr, arith, length, List, [], ◌∷◌, ◌++◌, refl}
use Rattle.std.proofs.Common.{ap, sym}
use Rattle.std.specs.Prelude.{Some, slice_get, slice_set}
use Rattle.std.proofs.lemmas.Option.{same_Some}

module _ {X : Type 0} where
  pub got-added : (xs : List X) (y : X) (i : ℕ) (x : X) → slice_get (xs ++ y ∷ []) i ≡ Some x
      → (slice_get xs i ≡ Some x) ⊎ ((i ≡ length xs) × (x ≡ y))
  got-added [] y zero x h = inr (refl, same_Some x y (sym h))
  got-added [] y (suc i) x h = absurd (cc)
  got-added (z ∷ xs) y zero x h = inl h
  got-added (z ∷ xs) y (suc i) x h = grind (arith, got-added xs y i x h)

  pub get-set_same : (xs : List X) (i : ℕ) (x y : X) → slice_get xs i ≡ Some x
      → slice_get (slice_set xs i y) i ≡ Some y
  get-set_same [] i x y h = absurd (cc)
  get-set_same (z ∷ xs) zero x y h = refl
  get-set_same (z ∷ xs) (suc i) x y h = get-set_same xs i x y h

  pub get-set_other : (xs : List X) (i j : ℕ) (y : X) → i ≢ j
      → slice_get (slice_set xs j y) i ≡ slice_get xs i
  get-set_other [] i j y n = refl
  get-set_other (z ∷ xs) zero zero y n = absurd (n refl)
  get-set_other (z ∷ xs) zero (suc j) y n = refl
  get-set_other (z ∷ xs) (suc i) zero y n = refl
  get-set_other (z ∷ xs) (suc i) (suc j) y n = get-set_other xs i j y (λ e. n (ap (λ k. suc k) e))

  pub got-set : (xs : List X) (i j : ℕ) (x y : X) → slice_get (slice_set xs j y) i ≡ Some x
      → ((i ≢ j) × (slice_get xs i ≡ Some x)) ⊎ ((i ≡ j) × (x ≡ y))
  got-set [] i j x y h = absurd (cc)
  got-set (z ∷ xs) zero zero x y h = inr (refl, same_Some x y (sym h))
  got-set (z ∷ xs) zero (suc j) x y h = inl ((λ e. omega arith), h)
  got-set (z ∷ xs) (suc i) zero x y h = inl ((λ e. omega arith), h)
  got-set (z ∷ xs) (suc i) (suc j) x y h = grind (arith, got-set xs i j x y h)
