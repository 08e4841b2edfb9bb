-- The run that is made is a run that ends, where links lead to finitely many states: a scan of them finds the
-- next state, and each state that is taken leaves one less to take.
use Rattle.std.proofs.Common.{◌≡◌, ℕ, zero, suc, ◌<◌, ◌≤◌, ◌⊎◌, inl, inr, refl, sym, ◌∙◌, subst, Bool, true}
use Rattle.std.proofs.Common.{false, ◌||◌, ◌&&◌, List, [], ◌∷◌, length, arith}
use Rattle.std.proofs.lemmas.Bool.Decides.{nat_tests}
use Rattle.std.specs.Prelude.{Option, Some, None, if◌then◌else◌, nat_eq, nat_lt}
use Rattle.std.specs.Option.{option_map_or}
use Rattle.std.proofs.lemmas.Bool.{false_from_ne_true}
use Rattle.root2_cost.specs.declared.Cost.{Cost}
use Rattle.root2_cost.specs.Order.{is_less, IsLess}
use Rattle.root2_cost.proofs.Less.{IsLess-irreflexive, IsLess-trans, same_cost}
use Rattle.root2_cost.specs.Sums.{no_cost}
use Rattle.search_run.specs.Run.{Rule, Taken, Offer, least_offer, is_taken, has_goal, sum_at, goes_before}
use Rattle.search_run.specs.Run.{IsNext, IsRun, NoneWaits}
use Rattle.search_run.specs.Ended.{IsEndedRun, is_one_of, IsCovered}
use Rattle.search_run.specs.Laws.{NumbersTellStates}
use Rattle.search_run.specs.Made.{former, next_among, run_of, run_on, taken_by}
use Rattle.search_run.proofs.Sameness.{ended_runs}
use Rattle.search_run.proofs.Leastness.{Waits, one_cost, least_offer-from}

-- first by a lesser sum, or by a lesser number where the sums are equal
data IsBefore (p q : Cost) (m n : ℕ) : Type 0 where
  by_sum : IsLess p q → IsBefore p q m n
  by_number : p ≡ q → m < n → IsBefore p q m n

abbrev before : Cost → Cost → ℕ → ℕ → Bool
before p q m n = is_less p q || (nat_eq p.a q.a && nat_eq p.b q.b && nat_lt m n)

is_before : (p q : Cost) (m n : ℕ) → before p q m n ≡ true → IsBefore p q m n
is_before p q m n h = by_test (is_less p q) refl h
  where
    by_test : (b : Bool) → is_less p q ≡ b → (b || (nat_eq p.a q.a && nat_eq p.b q.b && nat_lt m n)) ≡ true
        → IsBefore p q m n
    by_test true e h = by_sum e
    by_test false e h = by_number (same_cost p q (grind (arith, nat_tests)) (grind (arith, nat_tests)))
        (grind (arith, nat_tests))

before-is : (p q : Cost) (m n : ℕ) → IsBefore p q m n → before p q m n ≡ true
before-is p q m n (by_sum l) = rw l refl
before-is p q m n (by_number e l) = subst (λ (c : Cost). before p c m n ≡ true) e (equal (is_less p p))
  where
    equal : (b : Bool) → (b || (nat_eq p.a p.a && nat_eq p.b p.b && nat_lt m n)) ≡ true
    equal true = refl
    equal false = grind (arith, nat_tests)

before-trans : (p q r : Cost) (k m n : ℕ) → IsBefore p q k m → IsBefore q r m n → IsBefore p r k n
before-trans p q r k m n (by_sum g) (by_sum h) = by_sum (IsLess-trans p q r g h)
before-trans p q r k m n (by_sum g) (by_number e h) = by_sum (subst (λ (c : Cost). IsLess p c) e g)
before-trans p q r k m n (by_number e g) (by_sum h) = by_sum (subst (λ (c : Cost). IsLess c r) (sym e) h)
before-trans p q r k m n (by_number e g) (by_number f h) = by_number (e ∙ f) (omega arith)

before-irreflexive : (p : Cost) (n : ℕ) → IsBefore p p n n → ⊥
before-irreflexive p n (by_sum l) = IsLess-irreflexive p l
before-irreflexive p n (by_number e l) = omega arith

module _ {S : Type 0} (r : Rule S) where
  -- no state goes before itself
  not_before_itself : (s : S) (c : Cost) → goes_before r s c s c ≡ false
  not_before_itself s c = false_from_ne_true (goes_before r s c s c) (λ h.
      before-irreflexive (sum_at r s c) (r.number s)
      (is_before (sum_at r s c) (sum_at r s c) (r.number s) (r.number s) h))

  -- what does not go before the later state does not go before the earlier
  not_before_earlier : (s t u : S) (c d e : Cost) → goes_before r t d u e ≡ true
      → goes_before r s c u e ≡ false → goes_before r s c t d ≡ false
  not_before_earlier s t u c d e h n = false_from_ne_true (goes_before r s c t d) (λ g.
      let all : goes_before r s c u e ≡ true =
      before-is (sum_at r s c) (sum_at r u e) (r.number s) (r.number u)
      (before-trans (sum_at r s c) (sum_at r t d) (sum_at r u e) (r.number s) (r.number t) (r.number u)
      (is_before (sum_at r s c) (sum_at r t d) (r.number s) (r.number t) g)
      (is_before (sum_at r t d) (sum_at r u e) (r.number t) (r.number u) h)) in cc)

  -- how many of these states were not taken
  abbrev untaken : List (Taken S) → List S → ℕ
  untaken run [] = 0
  untaken run (v ∷ rest) = if is_taken r run v then untaken run rest else suc (untaken run rest)

  no_more_than : (run : List (Taken S)) (all : List S) → untaken run all ≤ length all
  no_more_than run [] = omega arith
  no_more_than run (v ∷ rest) =
      one_more (is_taken r run v) (untaken run rest) (length rest) (no_more_than run rest)
    where
      one_more : (b : Bool) (m n : ℕ) → m ≤ n → (if b then m else suc m) ≤ suc n
      one_more true m n h = omega arith
      one_more false m n h = omega arith

  -- taking a state leaves no more of them
  no_more : (x : Taken S) (run : List (Taken S)) (all : List S) → untaken (x ∷ run) all ≤ untaken run all
  no_more x run [] = omega arith
  no_more x run (v ∷ rest) =
      one_more (r.is_same x.state v) (is_taken r run v) (untaken (x ∷ run) rest) (untaken run rest)
      (no_more x run rest)
    where
      one_more : (b c : Bool) (m n : ℕ) → m ≤ n → (if b || c then m else suc m) ≤ (if c then n else suc n)
      one_more true true m n h = h
      one_more true false m n h = omega arith
      one_more false true m n h = h
      one_more false false m n h = omega arith

  module _ (one : (u v : S) → r.is_same u v ≡ true → u ≡ v) (itself : (s : S) → r.is_same s s ≡ true) where
    -- one of these is the first of them or one of the others
    parted : (v : S) (rest : List S) (s : S) → is_one_of r (v ∷ rest) s ≡ true
        → (v ≡ s) ⊎ (is_one_of r rest s ≡ true)
    parted v rest s i = by_test (r.is_same v s) refl i
      where
        by_test : (b : Bool) → r.is_same v s ≡ b → (b || is_one_of r rest s) ≡ true
            → (v ≡ s) ⊎ (is_one_of r rest s ≡ true)
        by_test true e i = inl (one v s e)
        by_test false e i = inr i

    -- taking one of them leaves fewer
    one_less : (x : Taken S) (run : List (Taken S)) (all : List S) → is_one_of r all x.state ≡ true
        → is_taken r run x.state ≡ false → untaken (x ∷ run) all < untaken run all
    one_less x run [] i n = absurd (cc)
    one_less x run (v ∷ rest) i n = elim (parted v rest x.state i) [
      | inl e ↦
          let same : r.is_same x.state v ≡ true = subst (λ (s : S). r.is_same x.state s ≡ true) (sym e)
          (itself x.state) in
          let new : is_taken r run v ≡ false = subst (λ (s : S). is_taken r run s ≡ false) (sym e) n in
          let most = no_more x run rest in
          rw (same, new) (omega arith)
      | inr j ↦ one_more (r.is_same x.state v) (is_taken r run v) (untaken (x ∷ run) rest) (untaken run rest)
          (one_less x run rest j n)
    ]
      where
        one_more : (b c : Bool) (m n : ℕ) → m < n → (if b || c then m else suc m) < (if c then n else suc n)
        one_more true true m n h = h
        one_more true false m n h = omega arith
        one_more false true m n h = h
        one_more false false m n h = omega arith

    module _ (run : List (Taken S)) where
      -- of these states this one waits, and none that waits goes before it
      record IsFirstOf (among : List S) (x : Taken S) : Type 0 where
        waits : Waits r run x.state (record { cost = x.cost; from = x.parent })
        first : (s : S) (o : Offer S) → is_one_of r among s ≡ true → Waits r run s o
            → goes_before r s o.cost x.state x.cost ≡ false

      -- none of these states waits, or this one is first
      abbrev IsChoice : List S → Option (Taken S) → Type 0
      IsChoice among None = (s : S) (o : Offer S) → is_one_of r among s ≡ true → Waits r run s o → ⊥
      IsChoice among (Some x) = IsFirstOf among x

      -- what is known of one state's offer holds of its every reading
      not_before_at : (v s x : S) (q o : Offer S) (c : Cost) → v ≡ s → Waits r run v q → Waits r run s o
          → goes_before r v q.cost x c ≡ false → goes_before r s o.cost x c ≡ false
      not_before_at v s x q o c e w z h =
          let same : least_offer r run v ≡ Some o =
          subst (λ (u : S). least_offer r run u ≡ Some o) (sym e) z.offered in
          subst (λ (u : S). goes_before r u o.cost x c ≡ false) e
          (subst (λ (d : Cost). goes_before r v d x c ≡ false)
          (one_cost (least_offer r run v) q o w.offered same) h)

      -- one state more, which does not wait
      passed : (v : S) (rest : List S) → ((o : Offer S) → Waits r run v o → ⊥) → (q : Option (Taken S))
          → IsChoice rest q → IsChoice (v ∷ rest) q
      passed v rest n None none = λ s o i w. elim (parted v rest s i) [
        | inl e ↦ n o (subst (λ (u : S). Waits r run u o) (sym e) w)
        | inr j ↦ none s o j w
      ]
      passed v rest n (Some x) f = record {
        waits = f.waits;
        first = λ s o i w. elim (parted v rest s i) [
          | inl e ↦ absurd (n o (subst (λ (u : S). Waits r run u o) (sym e) w))
          | inr j ↦ f.first s o j w
        ];
      }

      -- one state more, which waits
      joined : (v : S) (o : Offer S) (rest : List S) → Waits r run v o → (q : Option (Taken S))
          → IsChoice rest q → IsChoice (v ∷ rest) (former r (taken_by v (Some o)) q)
      joined v q rest w None none = record {
        waits = w;
        first = λ s o i z. elim (parted v rest s i) [
          | inl e ↦ not_before_at v s v q o q.cost e w z (not_before_itself v q.cost)
          | inr j ↦ absurd (none s o j z)
        ];
      }
      joined v q rest w (Some x) f = by_test (goes_before r v q.cost x.state x.cost) refl
        where
          by_test : (b : Bool) → goes_before r v q.cost x.state x.cost ≡ b
              → IsChoice (v ∷ rest) (if b then taken_by v (Some q) else Some x)
          by_test true h = record {
            waits = w;
            first = λ s o i z. elim (parted v rest s i) [
              | inl e ↦ not_before_at v s v q o q.cost e w z (not_before_itself v q.cost)
              | inr j ↦ not_before_earlier s v x.state o.cost q.cost x.cost h (f.first s o j z)
            ];
          }
          by_test false h = record {
            waits = f.waits;
            first = λ s o i z. elim (parted v rest s i) [
              | inl e ↦ not_before_at v s x.state q o x.cost e w z h
              | inr j ↦ f.first s o j z
            ];
          }

      -- so the scan finds the first of them
      choice : (among : List S) → IsChoice among (next_among r run among)
      choice [] = λ s o i w. absurd (cc)
      choice (v ∷ rest) = by_offer (is_taken r run v) (least_offer r run v) refl refl (choice rest)
        where
          by_offer : (b : Bool) (q : Option (Offer S)) → is_taken r run v ≡ b → least_offer r run v ≡ q
              → IsChoice rest (next_among r run rest)
              → IsChoice (v ∷ rest) (former r (if b then None else taken_by v q) (next_among r run rest))
          by_offer true q t e c =
              passed v rest (λ o w. let u = w.untaken in absurd (cc)) (next_among r run rest) c
          by_offer false None t e c =
              passed v rest (λ o w. let u = w.offered in absurd (cc)) (next_among r run rest) c
          by_offer false (Some q) t e c =
              joined v q rest (record { untaken = t; offered = e }) (next_among r run rest) c

    module _ (start : S) (all : List S) (covered : IsCovered r all) where
      -- a state that waits is one of those that links lead to
      waits_inside : (run : List (Taken S)) (s : S) (o : Offer S) → Waits r run s o → is_one_of r all s ≡ true
      waits_inside run s o w =
          let from = least_offer-from r run s o w.offered in
          covered from.by.parent from.by.state s from.offered.step from.offered.linked

      -- where none of them waits, none waits
      none_left : (run : List (Taken S))
          → ((s : S) (o : Offer S) → is_one_of r all s ≡ true → Waits r run s o → ⊥) → NoneWaits r run
      none_left run none s t = by_offer (least_offer r run s) refl
        where
          by_offer : (q : Option (Offer S)) → least_offer r run s ≡ q → least_offer r run s ≡ None
          by_offer None e = e
          by_offer (Some o) e =
              let w : Waits r run s o = record { untaken = t; offered = e } in
              absurd (none s o (waits_inside run s o w) w)

      -- the first of them is next
      is_next : (run : List (Taken S)) (x : Taken S) → IsFirstOf run all x → IsNext r run x
      is_next run x f = record {
        waits = f.waits.untaken;
        offered = f.waits.offered;
        first = λ s o t e. let w : Waits r run s o = record { untaken = t; offered = e } in
            f.first s o (waits_inside run s o w) w;
      }

      -- one state more, with fewer than n of them left, and the run ends
      abbrev LeadsOn : ℕ → List (Taken S) → Type 0
      LeadsOn n run = (y : Taken S) → IsRun r start (y ∷ run) → untaken (y ∷ run) all < n
          → IsEndedRun r start (run_on r all n (y ∷ run))

      -- a run goes on until it ends, as each state that it takes leaves fewer
      runs_on : (n : ℕ) (x : Taken S) (earlier : List (Taken S)) → IsRun r start (x ∷ earlier)
          → untaken (x ∷ earlier) all < n → IsEndedRun r start (run_on r all n (x ∷ earlier))
      runs_on zero x earlier is few = absurd (omega arith)
      runs_on (suc n) x earlier is few =
          by_goal (λ y. runs_on n y (x ∷ earlier)) (has_goal r (x ∷ earlier)) refl
        where
          further : LeadsOn n (x ∷ earlier) → has_goal r (x ∷ earlier) ≡ false → (q : Option (Taken S))
              → IsChoice (x ∷ earlier) all q
              → IsEndedRun r start (option_map_or (λ y. run_on r all n (y ∷ x ∷ earlier)) q (x ∷ earlier))
          further again g None none = record { is_run = is; ended = inr (none_left (x ∷ earlier) none) }
          further again g (Some y) f =
              let fewer : untaken (y ∷ x ∷ earlier) all < untaken (x ∷ earlier) all =
              one_less y (x ∷ earlier) all
              (waits_inside (x ∷ earlier) y.state (record { cost = y.cost; from = y.parent }) f.waits)
              f.waits.untaken in
              again y (is, g, is_next (x ∷ earlier) y f) (omega arith)

          by_goal : LeadsOn n (x ∷ earlier) → (b : Bool) → has_goal r (x ∷ earlier) ≡ b
              → IsEndedRun r start (if b then x ∷ earlier else
              option_map_or (λ y. run_on r all n (y ∷ x ∷ earlier)) (next_among r (x ∷ earlier) all)
              (x ∷ earlier))
          by_goal again true g = record { is_run = is; ended = inl g }
          by_goal again false g =
              further again g (next_among r (x ∷ earlier) all) (choice (x ∷ earlier) all)

      -- what is made is a run that ends
      pub made_ends : IsEndedRun r start (run_of r all start)
      unfolding run_of
      made_ends =
          let x : Taken S = record { state = start; cost = no_cost; parent = start } in
          let few = no_more_than (x ∷ []) all in
          runs_on (suc (length all)) x [] refl (omega arith)

      -- and each run that ends is it
      pub ended_is_made : NumbersTellStates r → (run : List (Taken S)) → IsEndedRun r start run
          → run ≡ run_of r all start
      ended_is_made tell run is =
          ended_runs r tell start run (run_of r all start) is.is_run made_ends.is_run is.ended made_ends.ended
