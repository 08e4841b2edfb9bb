-- What comes of labels that meet.
use Rattle.std.proofs.Common.{◌≡◌, ◌≢◌, ℕ, ◌⊎◌, inl, inr, arith, refl, ap, sym, ◌∙◌, subst}
use Rattle.std.proofs.Common.{Bool, true, false, ◌||◌, List, [], ◌∷◌}
use Rattle.std.specs.Prelude.{nat_eq, if◌then◌else◌}
use Rattle.std.proofs.lemmas.Bool.Decides.{nat_tests}
use Rattle.grid_moves.specs.declared.Cell.{Cell}
use Rattle.grid_moves.specs.declared.Dir.{Dir}
use Rattle.grid_moves.specs.Move.{beyond, is_dir, dir_number}
use Rattle.grid_moves.proofs.Dirs.{one_dir}
use Rattle.components.proofs.Cases.{one_or_not}
use Rattle.components.specs.Classes.{AreMerged, IsOfEither}
use Rattle.components.specs.Links.{IsLink, Adds}
use Rattle.components.specs.Meeting.{HaveMet, Borders, Gathers, linked_dirs, is_among}
use Rattle.components.proofs.Offsets.{has_dir}

merged_as : (f g : ℕ → ℕ) (a b c d : ℕ) → a ≡ c → b ≡ d → AreMerged f g c d → AreMerged f g a b
merged_as f g a b c d p q m = subst (λ (x : ℕ). AreMerged f g x b) (sym p)
    (subst (λ (x : ℕ). AreMerged f g c x) (sym q) m)

-- before any have met
pub gathers_none : (eight : Bool) (c : Cell) (at : Cell → ℕ) (f : ℕ → ℕ) → Gathers eight c at [] f f 0
gathers_none eight c at f = record {
  kept = λ l m h. h;
  only = λ l m h. inl h;
  from = λ l h n. absurd (n refl);
  met = λ d i s. absurd (let x : false ≡ true = i in cc);
}

module _ (eight : Bool) (c : Cell) (at : Cell → ℕ) (d : Dir) (dirs : List Dir) (before now later : ℕ → ℕ)
    (label result : ℕ) (g : Gathers eight c at dirs before now label)
    (met : HaveMet now later label (at (beyond d c)) result)
    (link : at (beyond d c) ≢ 0 → IsLink eight c (beyond d c)) where
  abbrev other : ℕ
  other = at (beyond d c)

  among : (e : Dir) → is_among e (d ∷ dirs) ≡ true → (e ≡ d) ⊎ (is_among e dirs ≡ true)
  among e i = by_test (is_dir e d) refl i
    where
      by_test : (b : Bool) → is_dir e d ≡ b → (b || is_among e dirs) ≡ true
          → (e ≡ d) ⊎ (is_among e dirs ≡ true)
      by_test true h i = inl (one_dir e d (tells (dir_number e) (dir_number d) h))
        where
          tells : (m n : ℕ) → nat_eq m n ≡ true → m ≡ n
          tells m n h = grind (arith, nat_tests)
      by_test false h i = inr i

  -- the classes as they are made one
  merged_with : (a b : ℕ) → result ≡ a → (if nat_eq other 0 then result else other) ≡ b
      → AreMerged now later a b
  merged_with a b p q = merged_as now later a b _ _ (sym p) (sym q) met.merged

  border : (l : ℕ) → other ≢ 0 → before l ≡ before other → Borders eight c at before l
  border l s e = record { beside = beyond d c; link = link s; some = s; same = sym e }

  -- where both labels are one, nothing else is merged
  only_one : (a : ℕ) → AreMerged now later a a → (l m : ℕ) → later l ≡ later m → now l ≡ now m
  only_one a m l k h = elim (m.only l k h) [
    | inl e ↦ e
    | inr both ↦ either l both.0 ∙ sym (either k both.1)
  ]
    where
      either : (l : ℕ) → IsOfEither now a a l → now l ≡ now a
      either l (inl e) = e
      either l (inr e) = e

  no_other : other ≡ 0 → result ≡ label → Gathers eight c at (d ∷ dirs) before later label
  no_other z r =
      let m = merged_with label label r (tests other result label z r) in
      record {
        kept = λ l k h. m.kept l k (g.kept l k h);
        only = λ l k h. elim (g.only l k (only_one label m l k h)) [
          | inl same ↦ inl same
          | inr own ↦ inr (own.0, m.kept l label own.1)
        ];
        from = λ l h n. g.from l (only_one label m l label h) n;
        met = λ e i s. elim (among e i) [
          | inl same ↦ absurd (s (ap (λ (b : Dir). at (beyond b c)) same ∙ z))
          | inr i ↦ let o = g.met e i s in (o.0, m.kept (at (beyond e c)) label o.1)
        ];
      }
    where
      tests : (other result label : ℕ) → other ≡ 0 → result ≡ label
          → (if nat_eq other 0 then result else other) ≡ label
      tests other result label z r = grind (arith, nat_tests)

  first_one : label ≡ 0 → other ≢ 0 → result ≡ other → Gathers eight c at (d ∷ dirs) before later other
  first_one z s r =
      let m = merged_with other other r (tests other result s) in
      record {
        kept = λ l k h. m.kept l k (g.kept l k h);
        only = λ l k h. elim (g.only l k (only_one other m l k h)) [
          | inl same ↦ inl same
          | inr own ↦ absurd (own.0 z)
        ];
        from = λ l h n. elim (g.only l other (only_one other m l other h)) [
          | inl same ↦ border l s same
          | inr own ↦ absurd (own.0 z)
        ];
        met = λ e i n. elim (among e i) [
          | inl same ↦ (s, ap (λ (b : Dir). later (at (beyond b c))) same)
          | inr i ↦ absurd ((g.met e i n).0 z)
        ];
      }
    where
      tests : (other result : ℕ) → other ≢ 0 → (if nat_eq other 0 then result else other) ≡ other
      tests other result s = grind (arith, nat_tests)

  both_some : label ≢ 0 → other ≢ 0 → result ≡ label → Gathers eight c at (d ∷ dirs) before later label
  both_some n s r =
      let m = merged_with label other r (tests other result s) in
      record {
        kept = λ l k h. m.kept l k (g.kept l k h);
        only = λ l k h. elim (m.only l k h) [
          | inl e ↦ elim (g.only l k e) [
            | inl same ↦ inl same
            | inr own ↦ inr (own.0, m.kept l label own.1)
          ]
          | inr both ↦ inr (
            n,
            elim both.0 [
              | inl e ↦ m.kept l label e
              | inr e ↦ m.kept l other e ∙ sym m.one
            ],
          )
        ];
        from = λ l h k. elim (m.only l label h) [
          | inl e ↦ g.from l e k
          | inr both ↦ elim both.0 [
            | inl e ↦ g.from l e k
            | inr e ↦ elim (g.only l other e) [
              | inl same ↦ border l s same
              | inr own ↦ g.from l own.1 k
            ]
          ]
        ];
        met = λ e i k. elim (among e i) [
          | inl same ↦ (n, ap (λ (b : Dir). later (at (beyond b c))) same ∙ sym m.one)
          | inr i ↦ let o = g.met e i k in (o.0, m.kept (at (beyond e c)) label o.1)
        ];
      }
    where
      tests : (other result : ℕ) → other ≢ 0 → (if nat_eq other 0 then result else other) ≡ other
      tests other result s = grind (arith, nat_tests)

  result_is : (label other result : ℕ) → result ≡ (if nat_eq label 0 then other else label)
      → ((label ≡ 0) → result ≡ other) × ((label ≢ 0) → result ≡ label)
  result_is label other result e = ((λ z. grind (arith, nat_tests)), (λ n. grind (arith, nat_tests)))

  pub gathers_more : Gathers eight c at (d ∷ dirs) before later result
  gathers_more =
      let r = result_is label other result met.is in
      elim (one_or_not label 0) [
        | inl z ↦ elim (one_or_not other 0) [
          | inl y ↦ let e : result ≡ label = r.0 z ∙ y ∙ sym z in
              subst (λ (n : ℕ). Gathers eight c at (d ∷ dirs) before later n) (sym e) (no_other y e)
          | inr s ↦ subst (λ (n : ℕ). Gathers eight c at (d ∷ dirs) before later n) (sym (r.0 z))
              (first_one z s (r.0 z))
        ]
        | inr n ↦ subst (λ (m : ℕ). Gathers eight c at (d ∷ dirs) before later m) (sym (r.1 n))
            (elim (one_or_not other 0) [
              | inl y ↦ no_other y (r.1 n)
              | inr s ↦ both_some n s (r.1 n)
            ])
      ]

-- all have met, and the cell has the label
module _ (eight : Bool) (c : Cell) (at at_now : Cell → ℕ) (before now : ℕ → ℕ) (label own : ℕ)
    (g : Gathers eight c at (linked_dirs eight) before now label)
    (at_c : at_now c ≡ own) (elsewhere : (u : Cell) → u ≢ c → at_now u ≡ at u)
    (before_none : before 0 ≡ 0) (before_some : (u : Cell) → at u ≢ 0 → before (at u) ≢ 0) where
  some_at : (u : Cell) → before (at u) ≢ 0 → at u ≢ 0
  some_at u n z = n (ap (λ (l : ℕ). before l) z ∙ before_none)

  none_at : (u : Cell) → before (at u) ≡ 0 → at u ≡ 0
  none_at u z = elim (one_or_not (at u) 0) [ inl e ↦ e | inr n ↦ absurd (before_some u n z) ]

  met_at : (n : Cell) → before (at n) ≢ 0 → IsLink eight c n → (label ≢ 0) × (now (at n) ≡ now label)
  met_at n s l =
      let h = has_dir eight c n l in
      let o = g.met h.dir h.among (λ z. some_at n s (ap (λ (v : Cell). at v) (sym h.is) ∙ z)) in
      (o.0, ap (λ (v : Cell). now (at v)) (sym h.is) ∙ o.1)

  -- that of the neighbours
  pub adds_met : own ≡ label → label ≢ 0 → now 0 ≡ 0 → now label ≢ 0
      → ((u : Cell) → at u ≢ 0 → now (at u) ≢ 0)
      → Adds eight c (λ u. before (at u)) (λ u. now (at_now u))
  adds_met is some none own_some now_some =
      let here : now (at_now c) ≡ now label = ap (λ (l : ℕ). now l) (at_c ∙ is) in
      let there : (u : Cell) → u ≢ c → now (at_now u)
      ≡ now (at u) = λ u o. ap (λ (l : ℕ). now l) (elsewhere u o)
      in
      record {
        own = λ z. own_some (sym here ∙ z);
        some = λ u o n z. now_some u (some_at u n) (sym (there u o) ∙ z);
        none = λ u o z. there u o ∙ ap (λ (l : ℕ). now l) (none_at u z) ∙ none;
        kept = λ u v o p e. there u o ∙ g.kept (at u) (at v) e ∙ sym (there v p);
        only = λ u v o p n e. elim (g.only (at u) (at v) (sym (there u o) ∙ e ∙ there v p)) [
          | inl same ↦ inl same
          | inr merged ↦ inr (there u o ∙ merged.1 ∙ sym here)
        ];
        from = λ u o n e. let b = g.from (at u) (sym (there u o) ∙ e ∙ here) some in
            record { beside = b.beside; link = b.link; same = b.same };
        met = λ n o s l. there n o ∙ (met_at n s l).1 ∙ sym here;
      }

  -- a new one
  pub adds_new : (later : ℕ → ℕ) → label ≡ 0 → now 0 ≡ 0 → ((u : Cell) → at u ≢ 0 → now (at u) ≢ 0)
      → later own ≢ 0 → ((u : Cell) → later (at u) ≡ now (at u)) → ((u : Cell) → now (at u) ≢ later own)
      → Adds eight c (λ u. before (at u)) (λ u. later (at_now u))
  adds_new later is none now_some own_some same apart =
      let here : later (at_now c) ≡ later own = ap (λ (l : ℕ). later l) at_c in
      let there : (u : Cell) → u ≢ c → later (at_now u) ≡ now (at u)
      = λ u o. ap (λ (l : ℕ). later l) (elsewhere u o) ∙ same u in
      record {
        own = λ z. own_some (sym here ∙ z);
        some = λ u o n z. now_some u (some_at u n) (sym (there u o) ∙ z);
        none = λ u o z. there u o ∙ ap (λ (l : ℕ). now l) (none_at u z) ∙ none;
        kept = λ u v o p e. there u o ∙ g.kept (at u) (at v) e ∙ sym (there v p);
        only = λ u v o p n e. elim (g.only (at u) (at v) (sym (there u o) ∙ e ∙ there v p)) [
          | inl same ↦ inl same
          | inr merged ↦ absurd (merged.0 is)
        ];
        from = λ u o n e. absurd (apart u (sym (there u o) ∙ e ∙ here));
        met = λ n o s l. absurd ((met_at n s l).0 is);
      }
