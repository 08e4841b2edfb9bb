-- Chains of linked cells, and what becomes of them where a cell is freed or blocked.
use Rattle.std.proofs.Common.{◌≡◌, ◌≢◌, ℕ, ◌⊎◌, inl, inr, refl, ap, sym, ◌∙◌, subst, Bool, true, false}
use Rattle.grid_moves.specs.declared.Cell.{Cell}
use Rattle.grid_moves.specs.Move.{is_same}
use Rattle.grid_moves.proofs.Legal.{is_same-cell, is_same-itself}
use Rattle.components.proofs.Cases.{true_or_false}
use Rattle.components.specs.Links.{IsLink, Chain, here, more, TellsLinked, Touches, Adds}

-- two cells are one, or not
pub one_or_other : (u v : Cell) → (u ≡ v) ⊎ (u ≢ v)
one_or_other u v = by_test (is_same u v) refl
  where
    by_test : (b : Bool) → is_same u v ≡ b → (u ≡ v) ⊎ (u ≢ v)
    by_test true e = inl (is_same-cell u v e)
    by_test false e = inr (λ h. let t : is_same u v ≡ true = subst (λ (w : Cell). is_same u w ≡ true) h
        (is_same-itself u) in let x : false ≡ true = sym e ∙ t in absurd (cc))

pub link_back : (eight : Bool) (u v : Cell) → IsLink eight u v → IsLink eight v u
link_back eight u v l = record {
  x_low = l.x_high;
  x_high = l.x_low;
  y_low = l.y_high;
  y_high = l.y_low;
  differ = λ e f. l.differ (sym e) (sym f);
  lined = elim l.lined [ inl e ↦ inl (sym e) | inr (inl e) ↦ inr (inl (sym e)) | inr (inr e) ↦ inr (inr e) ];
}

pub link_apart : (eight : Bool) (u v : Cell) → IsLink eight u v → u ≢ v
link_apart eight u v l e = l.differ (ap (λ (c : Cell). c.x) e) (ap (λ (c : Cell). c.y) e)

module _ (eight : Bool) (free : Cell → Bool) where
  pub chain_free : (t u : Cell) → Chain eight free t u → free u ≡ true
  chain_free t _ (here f) = f
  chain_free t _ (more u v f l rest) = f

  pub chain_on : (t v u : Cell) → Chain eight free t v → Chain eight free v u → Chain eight free t u
  chain_on t v _ c (here f) = c
  chain_on t v _ c (more u w f l rest) = more u w f l (chain_on t v w c rest)

  pub chain_one : (u v : Cell) → free u ≡ true → free v ≡ true → IsLink eight u v → Chain eight free v u
  chain_one u v f g l = more u v f l (here g)

  pub chain_back : (t u : Cell) → Chain eight free t u → Chain eight free u t
  chain_back t _ (here f) = here f
  chain_back t _ (more u v f l rest) = chain_on u v t
      (chain_one v u (chain_free t v rest) f (link_back eight u v l)) (chain_back t v rest)

  -- along a chain the class stays
  pub chain_class : (class : Cell → ℕ) → TellsLinked eight free class → (t u : Cell) → Chain eight free t u
      → class u ≡ class t
  chain_class class tells t _ (here f) = refl
  chain_class class tells t _ (more u v f l rest) =
      tells.linked u v f (chain_free t v rest) l ∙ chain_class class tells t v rest

  pub chain_more : (wide : Cell → Bool) → ((c : Cell) → free c ≡ true → wide c ≡ true) → (t u : Cell)
      → Chain eight free t u → Chain eight wide t u
  chain_more wide all t _ (here f) = here (all t f)
  chain_more wide all t _ (more u v f l rest) = more u v (all u f) l (chain_more wide all t v rest)

-- a cell is freed
module _ (eight : Bool) (free wide : Cell → Bool) (c : Cell) (shut : free c ≡ false)
    (now_free : wide c ≡ true)
    (others : (u : Cell) → u ≢ c → wide u ≡ free u) (before later : Cell → ℕ)
    (tells : TellsLinked eight free before) (adds : Adds eight c before later) where
  all : (u : Cell) → free u ≡ true → wide u ≡ true
  all u f = others u (λ e. let x : false ≡ true = sym shut ∙ ap (λ (v : Cell). free v) (sym e) ∙ f in
      absurd (cc)) ∙ f

  -- a cell that has a class is free
  classed : (u : Cell) → before u ≢ 0 → free u ≡ true
  classed u n = elim (true_or_false (free u)) [ inl f ↦ f | inr s ↦ absurd (n (tells.none u s)) ]

  apart : (u : Cell) → before u ≢ 0 → u ≢ c
  apart u n e = n (ap (λ (v : Cell). before v) e ∙ tells.none c shut)

  was : (u : Cell) → u ≢ c → later u ≢ 0 → before u ≢ 0
  was u o n z = n (adds.none u o z)

  reached : (u : Cell) → u ≢ c → before u ≢ 0 → later u ≡ later c → Chain eight wide c u
  reached u o n e =
      let t : Touches eight c before u = adds.from u o n e in
      let some : before t.beside ≢ 0 = λ z. n (sym t.same ∙ z) in
      chain_on eight wide c t.beside u
      (chain_one eight wide t.beside c (all t.beside (classed t.beside some)) now_free
      (link_back eight c t.beside t.link))
      (chain_more eight free wide all t.beside u (tells.joined u t.beside n (sym t.same)))

  joined : (u v : Cell) → later u ≢ 0 → later u ≡ later v → Chain eight wide v u
  joined u v n e = elim (one_or_other u c) [
    | inl p ↦ elim (one_or_other v c) [
      | inl q ↦ subst (λ (w : Cell). Chain eight wide v w) (q ∙ sym p)
          (here (ap (λ (w : Cell). wide w) q ∙ now_free))
      | inr q ↦ subst (λ (w : Cell). Chain eight wide v w) (sym p) (chain_back eight wide c v
          (reached v q (was v q (λ z. n (e ∙ z)))
          (sym e ∙ ap (λ (w : Cell). later w) p)))
    ]
    | inr p ↦ elim (one_or_other v c) [
      | inl q ↦ subst (λ (w : Cell). Chain eight wide w u) (sym q)
          (reached u p (was u p n) (e ∙ ap (λ (w : Cell). later w) q))
      | inr q ↦ elim (adds.only u v p q (was u p n) e) [
        | inl same ↦ chain_more eight free wide all v u (tells.joined u v (was u p n) same)
        | inr own ↦ chain_on eight wide v c u
            (chain_back eight wide c v (reached v q (was v q (λ z. n (e ∙ z))) (sym e ∙ own)))
            (reached u p (was u p n) own)
      ]
    ]
  ]

  linked : (u v : Cell) → wide u ≡ true → wide v ≡ true → IsLink eight u v → later u ≡ later v
  linked u v f g l = elim (one_or_other u c) [
    | inl p ↦
        let q : v ≢ c = λ e. link_apart eight u v l (p ∙ sym e) in
        ap (λ (w : Cell). later w) p ∙ sym (adds.met v q (tells.some v (sym (others v q) ∙ g))
        (subst (λ (w : Cell). IsLink eight w v) p l))
    | inr p ↦ elim (one_or_other v c) [
      | inl q ↦ adds.met u p (tells.some u (sym (others u p) ∙ f))
          (subst (λ (w : Cell). IsLink eight w u) q (link_back eight u v l))
          ∙ ap (λ (w : Cell). later w) (sym q)
      | inr q ↦ adds.kept u v p q (tells.linked u v (sym (others u p) ∙ f) (sym (others v q) ∙ g) l)
    ]
  ]

  pub freed : TellsLinked eight wide later
  freed = record {
    some = λ u f. elim (one_or_other u c) [
      | inl p ↦ λ z. adds.own (ap (λ (w : Cell). later w) (sym p) ∙ z)
      | inr p ↦ adds.some u p (tells.some u (sym (others u p) ∙ f))
    ];
    none = λ u f. elim (one_or_other u c) [
      | inl p ↦ absurd (let x : true ≡ false = sym now_free ∙ ap (λ (w : Cell). wide w) (sym p) ∙ f in cc)
      | inr p ↦ adds.none u p (tells.none u (sym (others u p) ∙ f))
    ];
    linked = linked;
    joined = joined;
  }

-- a cell is blocked, and those around it stay joined
module _ (eight : Bool) (free less : Cell → Bool) (c : Cell) (shut : less c ≡ false)
    (others : (u : Cell) → u ≢ c → less u ≡ free u) (before later : Cell → ℕ)
    (tells : TellsLinked eight free before) (none : later c ≡ 0)
    (kept : (u : Cell) → u ≢ c → later u ≡ before u)
    (around : (u v : Cell) → free u ≡ true → free v ≡ true → IsLink eight c u → IsLink eight c v
    → Chain eight less v u) where
  without : (t u : Cell) → t ≢ c → u ≢ c → Chain eight free t u → Chain eight less t u
  without t _ a b (here f) = here (others t a ∙ f)
  without t _ a b (more u v f l (here g)) = more u v (others u b ∙ f) l (here (others t a ∙ g))
  without t _ a b (more u _ f l (more v w g k rest)) = elim (one_or_other v c) [
    | inl e ↦ chain_on eight less t w u
        (without t w a (λ h. link_apart eight v w k (e ∙ sym h)) rest)
        (around u w f (chain_free eight free t w rest)
        (link_back eight u c (subst (λ (x : Cell). IsLink eight u x) e l))
        (subst (λ (x : Cell). IsLink eight x w) e k))
    | inr n ↦ more u v (others u b ∙ f) l (without t v a n (more v w g k rest))
  ]

  pub blocked : TellsLinked eight less later
  blocked = record {
    some = λ u f. let o : u ≢ c = apart u f in λ z. tells.some u (sym (others u o) ∙ f) (sym (kept u o) ∙ z);
    none = λ u f. elim (one_or_other u c) [
      | inl e ↦ ap (λ (w : Cell). later w) e ∙ none
      | inr o ↦ kept u o ∙ tells.none u (sym (others u o) ∙ f)
    ];
    linked = λ u v f g l.
        let o : u ≢ c = apart u f in
        let p : v ≢ c = apart v g in
        kept u o ∙ tells.linked u v (sym (others u o) ∙ f) (sym (others v p) ∙ g) l ∙ sym (kept v p);
    joined = λ u v n e.
        let o : u ≢ c = classed u n in
        let p : v ≢ c = classed v (λ z. n (e ∙ z)) in
        without v u p o (tells.joined u v (λ z. n (kept u o ∙ z)) (sym (kept u o) ∙ e ∙ kept v p));
  }
    where
      apart : (u : Cell) → less u ≡ true → u ≢ c
      apart u f e = let x : true ≡ false = sym f ∙ ap (λ (w : Cell). less w) e ∙ shut in absurd (cc)

      classed : (u : Cell) → later u ≢ 0 → u ≢ c
      classed u n e = n (ap (λ (w : Cell). later w) e ∙ none)
