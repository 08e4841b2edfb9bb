-- Lists that are sorted and stable.
use Rattle.std.proofs.lemmas.Bool.Decides.{nat_tests}
use Rattle.std.proofs.Common.{◌≡◌, ℕ, suc, ◌+◌, ◌<◌, ◌∙◌, sym, refl, ap, subst, arith, Bool, true}
use Rattle.std.proofs.Common.{false, List, [], ◌∷◌, length, get_or, cond}
use Rattle.std.specs.Cmp.{IsStrictWeakOrder}
use Rattle.std.specs.List.{filter}
use Rattle.std.specs.List.Sorted.{IsSortedBy, ties}
use Rattle.std.specs.Ordering.{MatchOrdering, is_lt}
use Rattle.std.specs.declared.cmp.Ordering.{Ordering}
use Rattle.std.specs.declared.cmp.Ordering.TheVariants.{Less, Equal, Greater}
use Rattle.std.proofs.lemmas.List.Sorted.{sorted_far}
use Rattle.root2_cost.specs.declared.Cost.{Cost}
use Rattle.root2_cost.specs.Order.{IsLess, is_less}
use Rattle.root2_cost.proofs.AtMost.{IsAtMost-refl, IsAtMost-trans, less_at_most}
use Rattle.problem_maker.specs.Ordered.{is_cheaper}

-- the test is one of an order
pub cheaper_ranks : IsStrictWeakOrder is_cheaper
cheaper_ranks = record {
  one_way = λ p q e. less_at_most p.cost q.cost e;
  chain = λ p q r e f. IsAtMost-trans r.cost q.cost p.cost f e;
}

-- what comparing costs tells of it
pub less_by_order : (p q : Cost) (r : Ordering) → MatchOrdering r (IsLess p q) (p ≡ q) (IsLess q p)
    → is_lt r ≡ is_less p q
less_by_order p q Less e = sym e
less_by_order p q Equal e = sym (subst (λ (c : Cost). is_less p c ≡ false) e (IsAtMost-refl p))
less_by_order p q Greater e = sym (less_at_most q p e)

-- two lists in order are one where, of the elements that tie with any one, they have the same ones in the
-- same order
module _ {X : Type 0} (lt : X → X → Bool) (ranks : IsStrictWeakOrder lt) where
  not_less : (x : X) → lt x x ≡ false
  not_less x = grind (arith, nat_tests)

  ties_itself : (x : X) → ties lt x x ≡ true
  ties_itself x = rw (not_less x) refl

  sorted_rest : (x : X) (xs : List X) → IsSortedBy lt (x ∷ xs) → IsSortedBy lt xs
  sorted_rest x xs s = λ k d low high.
      let place : suc k + 1 ≡ suc (k + 1) = omega arith in
      subst (λ (n : ℕ). lt (get_or (x ∷ xs) n d) (get_or xs k d) ≡ false) place
      (s (suc k) d (omega arith) (omega arith))

  -- where nothing ties
  none_ties : (z : X) (xs : List X) → ((k : ℕ) (d : X) → k < length xs → ties lt z (get_or xs k d) ≡ false)
      → filter (ties lt z) xs ≡ []
  none_ties z [] h = refl
  none_ties z (x ∷ xs) h =
      rw (h 0 x (omega arith)) (none_ties z xs (λ k d l. h (suc k) d (omega arith)))

  -- what is less than the first of a list in order ties with none of it
  less_ties_none : (z y : X) (ys : List X) → IsSortedBy lt (y ∷ ys) → lt z y ≡ true
      → filter (ties lt z) (y ∷ ys) ≡ []
  less_ties_none z y ys s less = none_ties z (y ∷ ys) (λ k d l. by_test (get_or (y ∷ ys) k d)
      (lt z (get_or (y ∷ ys) k d)) refl (sorted_far lt ranks (y ∷ ys) s 0 k d (omega arith) l))
    where
      by_test : (w : X) (b : Bool) → lt z w ≡ b → lt w y ≡ false → ties lt z w ≡ false
      by_test w true e f = rw e refl
      by_test w false e f = absurd (let g : lt z y ≡ false = ranks.chain z w y e f in cc)

  own_first : (z : X) (zs : List X) → filter (ties lt z) (z ∷ zs) ≡ z ∷ filter (ties lt z) zs
  own_first z zs = rw (ties_itself z) refl

  not_both : (z : X) (xs zs : List X) → filter (ties lt z) xs ≡ [] → filter (ties lt z) xs
      ≡ filter (ties lt z) (z ∷ zs) → ⊥
  not_both z xs zs none same =
      let e : [] ≡ z ∷ filter (ties lt z) zs = sym none ∙ same ∙ own_first z zs in cc

  pub one_order : (ys zs : List X) → IsSortedBy lt ys → IsSortedBy lt zs
      → ((x : X) → filter (ties lt x) ys ≡ filter (ties lt x) zs) → ys ≡ zs
  one_order [] [] s t same = refl
  one_order [] (z ∷ zs) s t same = absurd (not_both z [] zs refl (same z))
  one_order (y ∷ ys) [] s t same = absurd (not_both y [] ys refl (sym (same y)))
  one_order (y ∷ ys) (z ∷ zs) s t same = by_tests (lt y z) (lt z y) refl refl
      (λ h. one_order ys zs (sorted_rest y ys s) (sorted_rest z zs t) h)
    where
      head : (a b : X) (us vs : List X) → a ∷ us ≡ b ∷ vs → a ≡ b
      head a b us vs e = cc

      rest : (a b : X) (us vs : List X) → a ∷ us ≡ b ∷ vs → us ≡ vs
      rest a b us vs e = cc

      by_tests : (a b : Bool) → lt y z ≡ a → lt z y ≡ b
          → (((x : X) → filter (ties lt x) ys ≡ filter (ties lt x) zs) → ys ≡ zs) → y ∷ ys ≡ z ∷ zs
      by_tests true b e f others = absurd (not_both y (z ∷ zs) ys (less_ties_none y z zs t e) (sym (same y)))
      by_tests false true e f others = absurd (not_both z (y ∷ ys) zs (less_ties_none z y ys s f) (same z))
      by_tests false false e f others =
          let tie : ties lt y z ≡ true = rw (e, f) refl in
          let one : y ≡ z = head y z _ _ (sym (own_first y ys) ∙ same y
          ∙ ap (λ (b : Bool). cond b (z ∷ filter (ties lt y) zs) (filter (ties lt y) zs)) tie) in
          ap (λ (x : X). x ∷ ys) one ∙ ap (λ (xs : List X). z ∷ xs) (others (λ x. tails x (ties lt x y) refl
          (subst (λ (v : X). filter (ties lt x) (y ∷ ys) ≡ filter (ties lt x) (v ∷ zs)) (sym one) (same x))))
        where
          tails : (x : X) (b : Bool) → ties lt x y ≡ b
              → filter (ties lt x) (y ∷ ys) ≡ filter (ties lt x) (y ∷ zs)
              → filter (ties lt x) ys ≡ filter (ties lt x) zs
          tails x true e h = rest y y _ _ (rw e at h)
          tails x false e h = rw e at h
