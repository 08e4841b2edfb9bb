-- Two runs of one rule from one start that have ended are one run.
use Rattle.std.proofs.Common.{◌≡◌, ℕ, ◌⊎◌, inl, inr, refl, ap, sym, ◌∙◌, subst, Bool, true, false, ◌&&◌, List}
use Rattle.std.proofs.Common.{[], ◌∷◌, arith}
use Rattle.std.specs.Prelude.{Option, Some, None, nat_eq, nat_lt}
use Rattle.std.proofs.lemmas.Bool.Decides.{nat_tests}
use Rattle.std.proofs.lemmas.Bool.{or_parts}
use Rattle.root2_cost.specs.declared.Cost.{Cost}
use Rattle.root2_cost.proofs.AtMost.{IsAtMost-antisymmetric}
use Rattle.search_run.specs.Run.{Rule, Taken, Offer, IsNext, IsRun, least_offer, sum_at}
use Rattle.search_run.specs.Ended.{IsEnded}
use Rattle.search_run.specs.Laws.{NumbersTellStates}
use Rattle.search_run.proofs.Leastness.{least_offer-from}

-- the second list is the first with more before it
data Extends {X : Type 0} (xs : List X) : List X → Type 0 where
  itself : Extends xs xs
  more : (y : X) (ys : List X) → Extends xs ys → Extends xs (y ∷ ys)

-- where it is longer, one element stands next to the first
above : {X : Type 0} (xs ys : List X) → Extends xs ys → (xs ≡ ys) ⊎ ((z : X) × Extends (z ∷ xs) ys)
above xs ys itself = inl refl
above xs ys (more y zs e) = elim (above xs zs e) [
  | inl same ↦ inr (y, subst (λ (l : List _). Extends (y ∷ xs) (y ∷ l)) same itself)
  | inr z ↦ inr (z.0, more y zs z.1)
]

module _ {S : Type 0} (r : Rule S) (tell : NumbersTellStates r) where
  same_taken : (x y : Taken S) → x.state ≡ y.state → x.cost ≡ y.cost → x.parent ≡ y.parent → x ≡ y
  same_taken x y e f g =
      ap (λ (s : S). let u : Taken S = record { state = s; cost = x.cost; parent = x.parent } in u) e
      ∙ ap (λ (c : Cost). let u : Taken S = record { state = y.state; cost = c; parent = x.parent } in u) f
      ∙ ap (λ (s : S). let u : Taken S = record { state = y.state; cost = y.cost; parent = s } in u) g

  one_offer : (a b : Offer S) → Some a ≡ Some b → a ≡ b
  one_offer a b e = ap (λ (o : Option (Offer S)). elim o as (λ _. Offer S) [ Some v ↦ v | None ↦ a ]) e

  -- neither goes before the other
  equal_numbers : (m n : ℕ) → nat_lt m n ≡ false → nat_lt n m ≡ false → m ≡ n
  equal_numbers m n e f = grind (arith, nat_tests)

  tie_false : (p q : Cost) (tie : Bool) → p ≡ q → (nat_eq p.a q.a && nat_eq p.b q.b && tie) ≡ false
      → tie ≡ false
  tie_false p q tie same e =
      by_parts (nat_eq p.a q.a) (nat_eq p.b q.b) (equal p.a q.a (ap (λ (c : Cost). c.a) same))
      (equal p.b q.b (ap (λ (c : Cost). c.b) same)) e
    where
      equal : (m n : ℕ) → m ≡ n → nat_eq m n ≡ true
      equal m n h = grind (arith, nat_tests)

      by_parts : (a b : Bool) → a ≡ true → b ≡ true → (a && b && tie) ≡ false → tie ≡ false
      by_parts true true f g e = e
      by_parts true false f g e = absurd (cc)
      by_parts false b f g e = absurd (cc)

  -- one state is next
  same_next : (earlier : List (Taken S)) (x y : Taken S) → IsNext r earlier x → IsNext r earlier y → x ≡ y
  same_next earlier x y n m =
      let a = or_parts _ _ (n.first y.state (record { cost = y.cost; from = y.parent }) m.waits m.offered) in
      let b = or_parts _ _ (m.first x.state (record { cost = x.cost; from = x.parent }) n.waits n.offered) in
      let sums : sum_at r x.state x.cost ≡ sum_at r y.state y.cost =
      IsAtMost-antisymmetric (sum_at r x.state x.cost) (sum_at r y.state y.cost) a.0 b.0 in
      let numbers : r.number x.state ≡ r.number y.state = equal_numbers (r.number x.state) (r.number y.state)
      (tie_false (sum_at r x.state x.cost) (sum_at r y.state y.cost) _ sums b.1)
      (tie_false (sum_at r y.state y.cost) (sum_at r x.state x.cost) _ (sym sums) a.1) in
      let fx = least_offer-from r earlier x.state (record { cost = x.cost; from = x.parent }) n.offered in
      let fy = least_offer-from r earlier y.state (record { cost = y.cost; from = y.parent }) m.offered in
      let state : x.state ≡ y.state = tell.apart fx.by.parent fy.by.parent fx.by.state fy.by.state x.state
      y.state fx.offered.step
      fy.offered.step fx.offered.linked fy.offered.linked numbers in
      let offers = one_offer (record { cost = x.cost; from = x.parent })
      (record { cost = y.cost; from = y.parent })
      (sym n.offered ∙ ap (λ (s : S). least_offer r earlier s) state ∙ m.offered) in
      same_taken x y state (ap (λ (o : Offer S). o.cost) offers) (ap (λ (o : Offer S). o.from) offers)

  module _ (start : S) where
    -- the start comes first in each run
    from_start : (x : Taken S) (run : List (Taken S)) → IsRun r start (x ∷ []) → IsRun r start run
        → Extends (x ∷ []) run
    from_start x [] s is = absurd is
    from_start x (y ∷ []) s is =
        subst (λ (u : Taken S). Extends (x ∷ []) (u ∷ [])) (s ∙ sym is) itself
    from_start x (z ∷ y ∷ earlier) s is = more z (y ∷ earlier) (from_start x (y ∷ earlier) s is.0)

    -- what a run extends is a run
    part_run : (x : Taken S) (part run : List (Taken S)) → Extends (x ∷ part) run → IsRun r start run
        → IsRun r start (x ∷ part)
    part_run x part run itself is = is
    part_run x part run (more y [] e) is = elim e [ ]
    part_run x part run (more y (z ∷ zs) e) is = part_run x part (z ∷ zs) e is.0

    -- of two runs one extends the other
    nested : (one other : List (Taken S)) → IsRun r start one → IsRun r start other
        → Extends one other ⊎ Extends other one
    nested [] other is also = absurd is
    nested (x ∷ []) other is also = inl (from_start x other is also)
    nested (x ∷ y ∷ earlier) other is also = elim (nested (y ∷ earlier) other is.0 also) [
      | inr e ↦ inr (more x (y ∷ earlier) e)
      | inl e ↦ elim (above (y ∷ earlier) other e) [
        | inl same ↦ inr (subst (λ (l : List (Taken S)). Extends l (x ∷ y ∷ earlier)) same
            (more x (y ∷ earlier) itself))
        | inr z ↦ inl (subst (λ (u : Taken S). Extends (u ∷ y ∷ earlier) other)
            (same_next (y ∷ earlier) z.0 x (part_run z.0 (y ∷ earlier) other z.1 also).2 is.2) z.1)
      ]
    ]

    -- an ended run is extended by itself alone
    ended_same : (one other : List (Taken S)) → IsRun r start one → IsRun r start other → IsEnded r one
        → Extends one other → one ≡ other
    ended_same [] other is also end e = absurd is
    ended_same (x ∷ earlier) other is also end e = elim (above (x ∷ earlier) other e) [
      | inl same ↦ same
      | inr z ↦ absurd (goes_no_further z.0 (part_run z.0 (x ∷ earlier) other z.1 also) end)
    ]
      where
        goes_no_further : (z : Taken S) → IsRun r start (z ∷ x ∷ earlier) → IsEnded r (x ∷ earlier) → ⊥
        goes_no_further z on (inl g) = let n = on.1 in cc
        goes_no_further z on (inr none) =
            let o : Offer S = record { cost = z.cost; from = z.parent } in
            let e : Some o ≡ None = sym on.2.offered ∙ none z.state on.2.waits in
            cc

    pub ended_runs : (one other : List (Taken S)) → IsRun r start one → IsRun r start other → IsEnded r one
        → IsEnded r other → one ≡ other
    ended_runs one other is also end both = elim (nested one other is also) [
      | inl e ↦ ended_same one other is also end e
      | inr e ↦ sym (ended_same other one also is both e)
    ]
