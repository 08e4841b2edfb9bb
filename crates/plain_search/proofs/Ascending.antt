-- What is made number by number is a list whose members ascend strictly by their numbers.
use Rattle.std.proofs.Common.{◌≡◌, ℕ, zero, suc, ◌+◌, ◌<◌, ◌≤◌, ◌⊎◌, inl, inr, arith, refl, ap, sym, ◌∙◌}
use Rattle.std.proofs.Common.{subst, List, [], ◌∷◌, ◌++◌, length, map}
use Rattle.std.proofs.lemmas.Bool.{cases_eq}
use Rattle.std.specs.Prelude.{⊤, Option, Some, None, slice_index}
use Rattle.std.specs.List.{Contains, cons_option, filter_map, range_with_len}
use Rattle.std.specs.List.Sorted.{IsStrictlyIncreasing}

module _ {X : Type 0} where
  first_member : (x : X) (xs : List X) → Contains (x ∷ xs) x
  first_member x xs = (0, omega arith, refl)

  later_member : (x z : X) (xs : List X) → Contains xs z → Contains (x ∷ xs) z
  later_member x z xs m = (suc m.0, (let l = m.1 in omega arith), m.2)

  none_in : {A : Type 0} (z : X) → Contains [] z → A
  none_in z m = absurd (let l = m.1 in omega arith)

  -- a member is the first one or a later one
  member_of : (x z : X) (xs : List X) → Contains (x ∷ xs) z → (x ≡ z) ⊎ Contains xs z
  member_of x z xs (zero, l, e) = inl e
  member_of x z xs (suc k, l, e) = inr (k, omega arith, e)

module _ {X : Type 0} (number : X → ℕ) where
  -- each member has a lesser number than the later ones
  abbrev Ascends : List X → Type 0
  Ascends [] = ⊤
  Ascends (x ∷ xs) = ((z : X) → Contains xs z → number x < number z) × Ascends xs

  increasing : (xs : List X) → Ascends xs → (k : ℕ) → k + 1 < length (map number xs)
      → slice_index (map number xs) k < slice_index (map number xs) (k + 1)
  increasing [] up k l = absurd (omega arith)
  increasing (x ∷ []) up k l = absurd (omega arith)
  increasing (x ∷ y ∷ xs) up zero l = up.0 y (first_member y xs)
  increasing (x ∷ y ∷ xs) up (suc k) l =
      let place : suc (k + 1) ≡ suc k + 1 = omega arith in
      subst (λ (n : ℕ). slice_index (map number (y ∷ xs)) k < slice_index (map number (x ∷ y ∷ xs)) n) place
      (increasing (y ∷ xs) up.1 k (omega arith))

  -- what is made of each number, if anything is, has it
  module _ (make : ℕ → Option X) (numbered : (k : ℕ) (x : X) → make k ≡ Some x → number x ≡ k) where
    -- of the n numbers from k on
    abbrev made : ℕ → ℕ → List X
    made n k = filter_map make (range_with_len k n)

    abbrev IsMade : ℕ → X → Type 0
    IsMade k x = (k ≤ number x) × (make (number x) ≡ Some x)

    pub only_made : (n k : ℕ) (x : X) → Contains (made n k) x → IsMade k x
    only_made zero k x m = none_in x m
    only_made (suc n) k x m = by_first (only_made n (k + 1) x) (make k) refl m
      where
        later : IsMade (k + 1) x → IsMade k x
        later o = (let l = o.0 in omega arith, o.1)

        by_first : (Contains (made n (k + 1)) x → IsMade (k + 1) x) → (o : Option X) → make k ≡ o
            → Contains (cons_option o (made n (k + 1))) x → IsMade k x
        by_first rest None e m = later (rest m)
        by_first rest (Some y) e m = elim (member_of y x (made n (k + 1)) m) [
          | inl same ↦ (
              let here : make k ≡ Some x = e ∙ ap (λ (z : X). Some z) same in
              let at : number x ≡ k = numbered k x here in
              (omega arith, ap make at ∙ here))
          | inr m ↦ later (rest m)
        ]

    pub all_made : (n k : ℕ) (x : X) → k ≤ number x → number x < k + n → make (number x) ≡ Some x
        → Contains (made n k) x
    all_made zero k x low high e = absurd (omega arith)
    all_made (suc n) k x low high e = elim (cases_eq k (number x)) [
      | inl at ↦ subst (λ (o : Option X). Contains (cons_option o (made n (k + 1))) x) (sym (ap make at ∙ e))
          (first_member x (made n (k + 1)))
      | inr apart ↦ after (make k) (all_made n (k + 1) x (omega arith) (omega arith) e)
    ]
      where
        after : (o : Option X) → Contains (made n (k + 1)) x → Contains (cons_option o (made n (k + 1))) x
        after None m = m
        after (Some y) m = later_member y x (made n (k + 1)) m

    ascends_made : (n k : ℕ) → Ascends (made n k)
    ascends_made zero k = tt
    ascends_made (suc n) k = by_first (make k) refl (ascends_made n (k + 1))
      where
        by_first : (o : Option X) → make k ≡ o → Ascends (made n (k + 1))
            → Ascends (cons_option o (made n (k + 1)))
        by_first None e up = up
        by_first (Some y) e up = (
          λ z m. (let l = (only_made n (k + 1) z m).0 in let at = numbered k y e in omega arith),
          up,
        )

    pub made_up : (n : ℕ) → IsStrictlyIncreasing (map number (made n 0))
    made_up n = increasing (made n 0) (ascends_made n 0)

-- what is made of one number more
pub made_more : {X : Type 0} (make : ℕ → Option X) (n a j m : ℕ) → a + n ≡ j → m ≡ suc n
    → filter_map make (range_with_len a m) ≡ filter_map make (range_with_len a n) ++ cons_option (make j) []
made_more {X} make n a j m at e = ap (λ (k : ℕ). filter_map make (range_with_len a k)) e ∙ by_count n a at
  where
    after : (o : Option X) (xs ys : List X) → cons_option o (xs ++ ys) ≡ cons_option o xs ++ ys
    after None xs ys = refl
    after (Some x) xs ys = refl

    by_count : (n a : ℕ) → a + n ≡ j
        → filter_map make (range_with_len a (suc n)) ≡ filter_map make (range_with_len a n)
        ++ cons_option (make j) []
    by_count zero a at = let same : a ≡ j = omega arith in ap (λ (k : ℕ). cons_option (make k) []) same
    by_count (suc n) a at =
        ap (λ (l : List X). cons_option (make a) l) (by_count n (a + 1) (omega arith))
        ∙ after (make a) (filter_map make (range_with_len (a + 1) n)) (cons_option (make j) [])
