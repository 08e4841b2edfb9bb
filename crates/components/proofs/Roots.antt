-- Where each label leads to a lesser one, or stands for its class.
use Rattle.std.proofs.Common.{◌≡◌, ◌≢◌, ℕ, zero, suc, ◌<◌, ◌≤◌, ◌⊎◌, inl, inr, arith, refl, ap, sym, ◌∙◌}
use Rattle.std.proofs.Common.{List, length, get_or, set, length-set, subst, Bool, true, false}
use Rattle.std.specs.Prelude.{nat_eq, if◌then◌else◌}
use Rattle.std.proofs.lemmas.Bool.Decides.{nat_tests}
use Rattle.std.proofs.lemmas.List.{get_or-set_same, get_or-set_other}
use Rattle.components.proofs.Cases.{one_or_not}
use Rattle.components.specs.Classes.{climbed, root_of, IsForest, SameRoots, AreMerged, IsOfEither}

one_or_less : (m n : ℕ) → m ≤ n → (m ≡ n) ⊎ (m < n)
one_or_less m n h = grind arith

module _ (cs : List ℕ) where
  -- a label that leads to itself goes nowhere
  climbed-fixed : (n l : ℕ) → get_or cs l 0 ≡ l → climbed n cs l ≡ l
  climbed-fixed zero l e = refl
  climbed-fixed (suc n) l e = ap (λ (m : ℕ). climbed n cs m) e ∙ climbed-fixed n l e

  module _ (down : (l : ℕ) → get_or cs l 0 ≤ l) where
    -- as many steps as the label's number are enough
    settled : (n l : ℕ) → l ≤ n → get_or cs (climbed n cs l) 0 ≡ climbed n cs l
    settled zero l h =
        let z : l ≡ 0 = omega arith in
        let d : get_or cs l 0 ≤ l = down l in
        omega arith
    settled (suc n) l h = elim (one_or_less (get_or cs l 0) l (down l)) [
      | inl e ↦ subst (λ (m : ℕ). get_or cs m 0 ≡ m) (sym (climbed-fixed (suc n) l e)) e
      | inr less ↦ settled n (get_or cs l 0) (omega arith)
    ]

    enough : (m n l : ℕ) → l ≤ m → l ≤ n → climbed m cs l ≡ climbed n cs l
    enough zero n l h k =
        let z : l ≡ 0 = omega arith in
        let d : get_or cs l 0 ≤ l = down l in
        let e : get_or cs l 0 ≡ l = omega arith in
        sym (climbed-fixed n l e)
    enough (suc m) zero l h k =
        let z : l ≡ 0 = omega arith in
        let d : get_or cs l 0 ≤ l = down l in
        let e : get_or cs l 0 ≡ l = omega arith in
        climbed-fixed (suc m) l e
    enough (suc m) (suc n) l h k = elim (one_or_less (get_or cs l 0) l (down l)) [
      | inl e ↦ climbed-fixed (suc m) l e ∙ sym (climbed-fixed (suc n) l e)
      | inr less ↦ enough m n (get_or cs l 0) (omega arith) (omega arith)
    ]

    pub root-step : (l : ℕ) → root_of cs (get_or cs l 0) ≡ root_of cs l
    root-step l = enough (get_or cs l 0) l (get_or cs l 0) (omega arith) (down l)
        ∙ enough (suc l) l l (omega arith) (omega arith)

    pub root-settled : (l : ℕ) → get_or cs (root_of cs l) 0 ≡ root_of cs l
    root-settled l = settled l l (omega arith)

    climbed-down : (n l : ℕ) → climbed n cs l ≤ l
    climbed-down zero l = omega arith
    climbed-down (suc n) l =
        let d : get_or cs l 0 ≤ l = down l in
        let e : climbed n cs (get_or cs l 0) ≤ get_or cs l 0 = climbed-down n (get_or cs l 0) in
        omega arith

    pub root-down : (l : ℕ) → root_of cs l ≤ l
    root-down l = climbed-down l l

    -- what stays along each step is what the root has
    along : (f : ℕ → ℕ) → ((l : ℕ) → f (get_or cs l 0) ≡ f l) → (n l : ℕ) → f (climbed n cs l) ≡ f l
    along f stays zero l = refl
    along f stays (suc n) l = along f stays n (get_or cs l 0) ∙ stays l

    pub root-alone : (f : ℕ → ℕ) → ((l : ℕ) → f (get_or cs l 0) ≡ f l)
        → ((l : ℕ) → get_or cs l 0 ≡ l → f l ≡ l) → (l : ℕ) → root_of cs l ≡ f l
    root-alone f stays ends l = sym (ends (root_of cs l) (root-settled l)) ∙ along f stays l l

  pub root-itself : (l : ℕ) → get_or cs l 0 ≡ l → root_of cs l ≡ l
  root-itself l e = climbed-fixed l l e

  module _ (forest : IsForest cs) where
    climbed-some : (n l : ℕ) → l ≢ 0 → l < length cs → climbed n cs l ≢ 0
    climbed-some zero l n h = n
    climbed-some (suc m) l n h =
        let d : get_or cs l 0 ≤ l = forest.down l in
        climbed-some m (get_or cs l 0) (forest.some l n h) (omega arith)

    pub root-some : (l : ℕ) → l ≢ 0 → l < length cs → root_of cs l ≢ 0
    root-some l n h = climbed-some l l n h

-- another label is put behind i
module _ (cs : List ℕ) (forest : IsForest cs) (i next : ℕ) (within : i < length cs) (low : next ≤ i)
    (some : i ≢ 0 → next ≢ 0) where
  put_here : get_or (set cs i next) i 0 ≡ next
  put_here = get_or-set_same cs i next 0 within

  put_elsewhere : (l : ℕ) → l ≢ i → get_or (set cs i next) l 0 ≡ get_or cs l 0
  put_elsewhere l n = get_or-set_other cs i l next 0 n

  pub forest-put : IsForest (set cs i next)
  forest-put = record {
    down = λ l. elim (one_or_not l i) [
      | inl e ↦ subst (λ (m : ℕ). get_or (set cs i next) m 0 ≤ m) (sym e)
          (let h : get_or (set cs i next) i 0 ≡ next = put_here in omega arith)
      | inr n ↦
          let h : get_or (set cs i next) l 0 ≡ get_or cs l 0 = put_elsewhere l n in
          let d : get_or cs l 0 ≤ l = forest.down l in
          omega arith
    ];
    some = λ l n h. elim (one_or_not l i) [
      | inl e ↦ λ z. some (λ y. n (e ∙ y)) (sym put_here
          ∙ ap (λ (m : ℕ). get_or (set cs i next) m 0) (sym e) ∙ z)
      | inr a ↦ λ z. forest.some l n (let s : length (set cs i next) ≡ length cs = length-set cs i next in
          omega arith) (sym (put_elsewhere l a) ∙ z)
    ];
  }

  -- one of the same class
  pub same-put : root_of cs next ≡ root_of cs i → (next ≡ i → root_of cs i ≡ i) → SameRoots cs (set cs i next)
  same-put same alone l = root-alone (set cs i next) forest-put.down (root_of cs) stays ends l
    where
      stays : (l : ℕ) → root_of cs (get_or (set cs i next) l 0) ≡ root_of cs l
      stays l = elim (one_or_not l i) [
        | inl e ↦ subst (λ (m : ℕ). root_of cs (get_or (set cs i next) m 0) ≡ root_of cs m) (sym e)
            (ap (λ (m : ℕ). root_of cs m) put_here ∙ same)
        | inr n ↦ ap (λ (m : ℕ). root_of cs m) (put_elsewhere l n) ∙ root-step cs forest.down l
      ]

      ends : (l : ℕ) → get_or (set cs i next) l 0 ≡ l → root_of cs l ≡ l
      ends l f = elim (one_or_not l i) [
        | inl e ↦ ap (λ (m : ℕ). root_of cs m) e ∙ alone (sym put_here
            ∙ ap (λ (m : ℕ). get_or (set cs i next) m 0) (sym e) ∙ f ∙ e) ∙ sym e
        | inr n ↦ root-itself cs l (sym (put_elsewhere l n) ∙ f)
      ]

-- what two steps lead to
module _ (cs : List ℕ) (forest : IsForest cs) (i : ℕ) (within : i < length cs) where
  abbrev two : ℕ
  two = get_or cs (get_or cs i 0) 0

  pub two-down : two ≤ get_or cs i 0
  two-down = forest.down (get_or cs i 0)

  one-down : get_or cs i 0 ≤ i
  one-down = forest.down i

  two-low : two ≤ i
  two-low = let h : two ≤ get_or cs i 0 = two-down in let k : get_or cs i 0 ≤ i = one-down in omega arith

  two-some : i ≢ 0 → two ≢ 0
  two-some n = let k : get_or cs i 0 ≤ i = one-down in
      forest.some (get_or cs i 0) (forest.some i n within) (omega arith)

  pub halved-forest : IsForest (set cs i two)
  halved-forest = forest-put cs forest i two within two-low two-some

  pub halved-root : root_of cs two ≡ root_of cs i
  halved-root = root-step cs forest.down (get_or cs i 0) ∙ root-step cs forest.down i

  pub halved-same : SameRoots cs (set cs i two)
  halved-same = same-put cs forest i two within two-low two-some halved-root
      (λ e. root-itself cs i (let h : two ≤ get_or cs i 0 = two-down in
      let k : get_or cs i 0 ≤ i = one-down in omega arith))

-- the root q is put behind the root p
module _ (cs : List ℕ) (forest : IsForest cs) (p q : ℕ) (low : p ≤ q) (within : q < length cs)
    (some : q ≢ 0 → p ≢ 0) (here : get_or cs p 0 ≡ p) (there : get_or cs q 0 ≡ q) where
  abbrev moved : ℕ → ℕ
  moved l = if nat_eq (root_of cs l) q then p else root_of cs l

  linked-forest : IsForest (set cs q p)
  linked-forest = forest-put cs forest q p within low some

  moved-of : (l r : ℕ) → root_of cs l ≡ r → moved l ≡ (if nat_eq r q then p else r)
  moved-of l r e = rw e refl

  moved-root : (l : ℕ) → root_of (set cs q p) l ≡ moved l
  moved-root l = root-alone (set cs q p) linked-forest.down moved stays ends l
    where
      is_p : moved p ≡ p
      is_p = moved-of p p (root-itself cs p here) ∙ by_test (nat_eq p q)
        where
          by_test : (b : Bool) → (if b then p else p) ≡ p
          by_test true = refl
          by_test false = refl

      is_q : moved q ≡ p
      is_q = moved-of q q (root-itself cs q there) ∙ tests q
        where
          tests : (q : ℕ) → (if nat_eq q q then p else q) ≡ p
          tests q = grind (arith, nat_tests)

      stays : (l : ℕ) → moved (get_or (set cs q p) l 0) ≡ moved l
      stays l = elim (one_or_not l q) [
        | inl e ↦ subst (λ (m : ℕ). moved (get_or (set cs q p) m 0) ≡ moved m) (sym e)
            (ap (λ (m : ℕ). moved m) (get_or-set_same cs q p 0 within) ∙ is_p ∙ sym is_q)
        | inr n ↦ ap (λ (m : ℕ). moved m) (get_or-set_other cs q l p 0 n)
            ∙ ap (λ (r : ℕ). if nat_eq r q then p else r) (root-step cs forest.down l)
      ]

      other : (l : ℕ) → l ≢ q → (if nat_eq l q then p else l) ≡ l
      other l n = grind (arith, nat_tests)

      ends : (l : ℕ) → get_or (set cs q p) l 0 ≡ l → moved l ≡ l
      ends l f = elim (one_or_not l q) [
        | inl e ↦ ap (λ (m : ℕ). moved m) e ∙ is_q ∙ sym (get_or-set_same cs q p 0 within)
            ∙ ap (λ (m : ℕ). get_or (set cs q p) m 0) (sym e) ∙ f
        | inr n ↦ moved-of l l (root-itself cs l (sym (get_or-set_other cs q l p 0 n) ∙ f)) ∙ other l n
      ]

  moved-only : (r s : ℕ) → (if nat_eq r q then p else r) ≡ (if nat_eq s q then p else s)
      → (r ≡ s) ⊎ (((r ≡ p) ⊎ (r ≡ q)) × ((s ≡ p) ⊎ (s ≡ q)))
  moved-only r s e = grind (arith, nat_tests)

  -- so the classes of which these are the roots are one
  pub linked-merged : (a b : ℕ) → root_of cs a ≡ p → root_of cs b ≡ q
      → AreMerged (root_of cs) (root_of (set cs q p)) a b
  linked-merged a b e f = record {
    one = moved-root a ∙ ap (λ (r : ℕ). if nat_eq r q then p else r) e ∙ same p ∙ sym (tests q)
        ∙ sym (ap (λ (r : ℕ). if nat_eq r q then p else r) f) ∙ sym (moved-root b);
    kept = λ l m h. moved-root l ∙ ap (λ (r : ℕ). if nat_eq r q then p else r) h ∙ sym (moved-root m);
    only = λ l m h. elim (moved-only (root_of cs l) (root_of cs m) (sym (moved-root l) ∙ h ∙ moved-root m)) [
      | inl same ↦ inl same
      | inr both ↦ inr (either l both.0, either m both.1)
    ];
  }
    where
      same : (r : ℕ) → (if nat_eq r q then r else r) ≡ r
      same r = grind (arith, nat_tests)

      tests : (q : ℕ) → (if nat_eq q q then p else q) ≡ p
      tests q = grind (arith, nat_tests)

      either : (l : ℕ) → (root_of cs l ≡ p) ⊎ (root_of cs l ≡ q) → IsOfEither (root_of cs) a b l
      either l (inl h) = inl (h ∙ sym e)
      either l (inr h) = inr (h ∙ sym f)

pub merged-turned : (before later : ℕ → ℕ) (a b : ℕ) → AreMerged before later a b → AreMerged before later b a
merged-turned before later a b m = record {
  one = sym m.one;
  kept = m.kept;
  only = λ k l h. elim (m.only k l h) [ inl same ↦ inl same | inr both ↦ inr (turn k both.0, turn l both.1) ];
}
  where
    turn : (l : ℕ) → IsOfEither before a b l → IsOfEither before b a l
    turn l (inl h) = inr h
    turn l (inr h) = inl h

-- with ways that were shortened in between
pub merged-after : (old cs : List ℕ) (later : ℕ → ℕ) (a b : ℕ) → SameRoots old cs
    → AreMerged (root_of cs) later a b → AreMerged (root_of old) later a b
merged-after old cs later a b same m = record {
  one = m.one;
  kept = λ k l h. m.kept k l (same k ∙ h ∙ sym (same l));
  only = λ k l h. elim (m.only k l h) [
    | inl e ↦ inl (sym (same k) ∙ e ∙ same l)
    | inr both ↦ inr (back k both.0, back l both.1)
  ];
}
  where
    back : (l : ℕ) → IsOfEither (root_of cs) a b l → IsOfEither (root_of old) a b l
    back l (inl h) = inl (sym (same l) ∙ h ∙ same a)
    back l (inr h) = inr (sym (same l) ∙ h ∙ same b)

-- a label that stands for itself comes to be used
pub root-new : (cs : List ℕ) → IsForest cs → (new l : ℕ) → l < new → root_of (set cs new new) l ≡ root_of cs l
root-new cs forest new l h = climbed-new l l h
  where
    climbed-new : (n l : ℕ) → l < new → climbed n (set cs new new) l ≡ climbed n cs l
    climbed-new zero l h = refl
    climbed-new (suc n) l h =
        let d : get_or cs l 0 ≤ l = forest.down l in
        let e : get_or (set cs new new) l 0 ≡ get_or cs l 0 =
        get_or-set_other cs new l new 0 (λ z. omega arith) in
        ap (λ (m : ℕ). climbed n (set cs new new) m) e ∙ climbed-new n (get_or cs l 0) (omega arith)

-- two labels whose roots were found, one after the other, are made one
module _ (old between cs : List ℕ) (forest : IsForest cs) (first : SameRoots old between)
    (second : SameRoots between cs) (a b p q : ℕ) (a_below : a < length cs) (b_below : b < length cs)
    (a_some : a ≢ 0) (b_some : b ≢ 0) (is_p : p ≡ root_of old a) (is_q : q ≡ root_of between b) where
  of_a : root_of cs a ≡ p
  of_a = second a ∙ first a ∙ sym is_p

  of_b : root_of cs b ≡ q
  of_b = second b ∙ sym is_q

  root_alone : (l r : ℕ) → root_of cs l ≡ r → get_or cs r 0 ≡ r
  root_alone l r e = subst (λ (m : ℕ). get_or cs m 0 ≡ m) e (root-settled cs forest.down l)

  root_below : (l r : ℕ) → root_of cs l ≡ r → l < length cs → r < length cs
  root_below l r e h = let d : root_of cs l ≤ l = root-down cs forest.down l in omega arith

  root_some : (l r : ℕ) → root_of cs l ≡ r → l < length cs → l ≢ 0 → r ≢ 0
  root_some l r e h n z = root-some cs forest l n h (e ∙ z)

  all_same : SameRoots old cs
  all_same l = second l ∙ first l

  pub p_below : p < length cs
  p_below = root_below a p of_a a_below

  pub q_below : q < length cs
  q_below = root_below b q of_b b_below

  pub record HasUnited (later : List ℕ) : Type 0 where
    pub falls : IsForest later
    pub merged : AreMerged (root_of old) (root_of later) a b

  pub united : p ≤ q → HasUnited (set cs q p)
  united low = record {
    falls = forest-put cs forest q p q_below low (λ n. root_some a p of_a a_below a_some);
    merged = merged-after old cs (root_of (set cs q p)) a b all_same
        (linked-merged cs forest p q low q_below (λ n. root_some a p of_a a_below a_some)
        (root_alone a p of_a)
        (root_alone b q of_b) a b of_a of_b);
  }

  pub united-turned : q ≤ p → HasUnited (set cs p q)
  united-turned low = record {
    falls = forest-put cs forest p q p_below low (λ n. root_some b q of_b b_below b_some);
    merged = merged-after old cs (root_of (set cs p q)) a b all_same
        (merged-turned (root_of cs) (root_of (set cs p q)) b a
        (linked-merged cs forest q p low p_below (λ n. root_some b q of_b b_below b_some)
        (root_alone b q of_b)
        (root_alone a p of_a) b a of_b of_a));
  }
