-- A run takes the goal at a cost that no chain of links undercuts, and ends without it only where no
-- chain leads there.
use Rattle.std.proofs.Common.{◌≡◌, ◌⊎◌, inl, inr, refl, ap, sym, ◌∙◌, subst, Bool, true, false, ◌||◌, List}
use Rattle.std.proofs.Common.{[], ◌∷◌}
use Rattle.std.specs.Prelude.{Option, Some, None}
use Rattle.std.proofs.lemmas.Bool.{or_parts, or_right}
use Rattle.root2_cost.specs.declared.Cost.{Cost}
use Rattle.root2_cost.specs.Order.{IsAtMost, IsLess}
use Rattle.root2_cost.proofs.AtMost.{IsAtMost-not_more}
use Rattle.root2_cost.specs.Sums.{add_costs, no_cost}
use Rattle.root2_cost.proofs.Most.{Most, Most-then, Most-same, Most-add_left, Most-add_right}
use Rattle.root2_cost.proofs.Most.{Most-cancel_right, Most-more, Most-nothing}
use Rattle.root2_cost.proofs.Sums.{add_costs-assoc, add_costs-no_cost_left, add_costs-no_cost_right}
use Rattle.search_run.specs.Run.{IsIn, here, there, Rule, Taken, Offer, offer, least_offer, is_taken}
use Rattle.search_run.specs.Run.{has_goal, sum_at, IsNext, IsRun, NoneWaits}
use Rattle.search_run.specs.Chain.{Chain, stays, goes_on, IsConsistent}
use Rattle.search_run.proofs.Offers.{lesser-early, lesser-late, lesser-one, IsOffered, offer-made, offer-over}

-- s waits, with this least offer
pub record Waits {S : Type 0} (r : Rule S) (run : List (Taken S)) (s : S) (o : Offer S) : Type 0 where
  pub untaken : is_taken r run s ≡ false
  pub offered : least_offer r run s ≡ Some o

-- s was taken at no more than this cost
pub record WasTaken {S : Type 0} (run : List (Taken S)) (s : S) (bound : Cost) : Type 0 where
  pub by : Taken S
  pub member : IsIn by run
  pub is : by.state ≡ s
  pub most : Most by.cost bound

-- s waits at no more than this cost
pub record WaitsAt {S : Type 0} (r : Rule S) (run : List (Taken S)) (s : S) (bound : Cost) : Type 0 where
  pub offer : Offer S
  pub waits : Waits r run s offer
  pub most : Most offer.cost bound

-- s was taken or waits, at no more than this cost
abbrev pub IsKnown : {S : Type 0} → Rule S → List (Taken S) → S → Cost → Type 0
IsKnown r run s bound = WasTaken run s bound ⊎ WaitsAt r run s bound

-- the sum of each taken state is at most that of each state that waits
abbrev pub SumsRise : {S : Type 0} → Rule S → List (Taken S) → Type 0
SumsRise {S} r run = (u : Taken S) (s : S) (o : Offer S) → IsIn u run → Waits r run s o
    → Most (sum_at r u.state u.cost) (sum_at r s o.cost)

-- over each link from a taken state that is no goal, a state is known at the cost of that way
abbrev pub IsRelaxed : {S : Type 0} → Rule S → List (Taken S) → Type 0
IsRelaxed {S} r run = (u : Taken S) (v : S) (c : Cost) → IsIn u run → r.is_goal u.state ≡ false
    → r.link u.parent u.state v ≡ Some c → IsKnown r run v (add_costs u.cost c)

offer_cost : {S : Type 0} → Option (Offer S) → Cost
offer_cost None = no_cost
offer_cost (Some o) = o.cost

-- two readings of one offer
pub one_cost : {S : Type 0} (q : Option (Offer S)) (a b : Offer S) → q ≡ Some a → q ≡ Some b → a.cost ≡ b.cost
unfolding offer_cost
one_cost {S} q a b d e = ap (λ (p : Option (Offer S)). offer_cost p) (sym d ∙ e)

-- an offer that one of the taken states makes
pub record ComesFrom {S : Type 0} (r : Rule S) (run : List (Taken S)) (s : S) (o : Offer S) : Type 0 where
  pub by : Taken S
  pub member : IsIn by run
  pub offered : IsOffered r by s o

-- the least offer is one of them
pub least_offer-from : {S : Type 0} (r : Rule S) (run : List (Taken S)) (s : S) (o : Offer S)
    → least_offer r run s ≡ Some o → ComesFrom r run s o
least_offer-from r [] s o h = absurd (cc)
least_offer-from r (x ∷ earlier) s o h = elim (lesser-one (least_offer r earlier s) (offer r x s) o h) [
  | inl e ↦ let f = least_offer-from r earlier s o e in record
      { by = f.by; member = there x earlier f.member; offered = f.offered }
  | inr e ↦ record { by = x; member = here earlier; offered = offer-made r x s o e }
]

module _ {S : Type 0} (r : Rule S) (fit : IsConsistent r) where
  -- what was taken is among the taken states
  pub is_taken-member : (run : List (Taken S)) (u : Taken S) → IsIn u run → is_taken r run u.state ≡ true
  is_taken-member [] u m = elim m [ ]
  is_taken-member (x ∷ earlier) u (here e) = rw (fit.itself x.state) refl
  is_taken-member (x ∷ earlier) u (there z e m) =
      or_right (r.is_same x.state u.state) (is_taken r earlier u.state) (is_taken-member earlier u m)

  -- a state that is among the taken ones was taken
  pub taken_state : (run : List (Taken S)) (s : S) → is_taken r run s ≡ true
      → (u : Taken S) × IsIn u run × (u.state ≡ s)
  taken_state [] s h = absurd (cc)
  taken_state (x ∷ earlier) s h = by_test (λ k. taken_state earlier s k) (r.is_same x.state s) refl h
    where
      by_test : (is_taken r earlier s ≡ true → (u : Taken S) × IsIn u earlier × (u.state ≡ s)) → (b : Bool)
          → r.is_same x.state s ≡ b → (b || is_taken r earlier s) ≡ true
          → (u : Taken S) × IsIn u (x ∷ earlier) × (u.state ≡ s)
      by_test again true e h = (x, here earlier, fit.one x.state s e)
      by_test again false e h = let t = again h in (t.0, there x earlier t.1, t.2)

  -- where no goal was taken
  pub no_goal : (run : List (Taken S)) (u : Taken S) → has_goal r run ≡ false → IsIn u run
      → r.is_goal u.state ≡ false
  no_goal [] u g m = elim m [ ]
  no_goal (x ∷ earlier) u g (here e) = (or_parts (r.is_goal x.state) (has_goal r earlier) g).0
  no_goal (x ∷ earlier) u g (there z e m) =
      no_goal earlier u (or_parts (r.is_goal x.state) (has_goal r earlier) g).1 m

  -- a link never lowers the sum
  pub link_rises : (p u v : S) (b c : Cost) → r.link p u v ≡ Some c
      → Most (sum_at r u b) (sum_at r v (add_costs b c))
  link_rises p u v b c l =
      Most-then (Most-add_left b (r.estimate u) (add_costs c (r.estimate v))
      (record { is = fit.falls p u v c l }))
      (Most-same (sym (add_costs-assoc b c (r.estimate v))))

  module _ (earlier : List (Taken S)) (x : Taken S) where
    -- what is known when x is about to be taken
    record IsTakenNext : Type 0 where
      first : (s : S) (o : Offer S) → Waits r earlier s o → Most (sum_at r x.state x.cost) (sum_at r s o.cost)
      at_least_offer : (o : Offer S) → Waits r earlier x.state o → o.cost ≡ x.cost
      rises : (u : Taken S) → IsIn u earlier → Most (sum_at r u.state u.cost) (sum_at r x.state x.cost)

    -- the next state, where sums rose so far
    next_taken : SumsRise r earlier → IsNext r earlier x → IsTakenNext
    next_taken rise n = record {
      first = λ s o w. record { is = (or_parts _ _ (n.first s o w.untaken w.offered)).0 };
      at_least_offer = λ o w. one_cost (least_offer r earlier x.state) o
          (record { cost = x.cost; from = x.parent }) w.offered n.offered;
      rises = λ u m. rise u x.state (record { cost = x.cost; from = x.parent }) m
          (record { untaken = n.waits; offered = n.offered });
    }

    -- what waits after x was taken waited before, or x offers it
    waited : (s : S) (o : Offer S) → Waits r (x ∷ earlier) s o
        → Waits r earlier s o
        ⊎ ((c : Cost) × (r.link x.parent x.state s ≡ Some c) × (o.cost ≡ add_costs x.cost c))
    waited s o w = elim (lesser-one (least_offer r earlier s) (offer r x s) o w.offered) [
      | inl e ↦ inl (record {
        untaken = (or_parts (r.is_same x.state s) (is_taken r earlier s) w.untaken).1;
        offered = e;
      })
      | inr e ↦ inr (let m = offer-made r x s o e in (m.step, m.linked, m.total))
    ]

    -- x's sum is at most that of each state that waits after it
    x_below : IsTakenNext → (s : S) (o : Offer S) → Waits r (x ∷ earlier) s o
        → Most (sum_at r x.state x.cost) (sum_at r s o.cost)
    x_below n s o w = elim (waited s o w) [
      | inl before ↦ n.first s o before
      | inr new ↦ subst (λ (t : Cost). Most (sum_at r x.state x.cost) (sum_at r s t)) (sym new.2)
          (link_rises x.parent x.state s x.cost new.0 new.1)
    ]

    rise_on : IsTakenNext → SumsRise r (x ∷ earlier)
    rise_on n u s o (here e) w = x_below n s o w
    rise_on n u s o (there z e m) w = Most-then (n.rises u m) (x_below n s o w)

    -- what is known stays known, at no more, when x is taken
    stays_known : IsTakenNext → (v : S) (bound : Cost) → IsKnown r earlier v bound
        → IsKnown r (x ∷ earlier) v bound
    stays_known n v bound (inl t) =
        inl (record { by = t.by; member = there x earlier t.member; is = t.is; most = t.most })
    stays_known n v bound (inr k) = by_test (r.is_same x.state v) refl
      where
        by_test : (b : Bool) → r.is_same x.state v ≡ b → IsKnown r (x ∷ earlier) v bound
        by_test true e =
            let one : x.state ≡ v = fit.one x.state v e in
            let now : Waits r earlier x.state k.offer =
            subst (λ (s : S). Waits r earlier s k.offer) (sym one) k.waits in
            inl (record {
              by = x;
              member = here earlier;
              is = one;
              most = Most-then
                  (Most-same (sym (n.at_least_offer k.offer now))) k.most;
            })
        by_test false e =
            let l = lesser-early k.offer (offer r x v) in
            inr (record {
              offer = l.0;
              waits = record
                  { untaken = rw (e, k.waits.untaken) refl; offered = rw k.waits.offered l.1 };
              most = Most-then
                  (record { is = l.2 }) k.most;
            })

    -- over a link from x itself
    known_from : IsTakenNext → (v : S) (c : Cost) → r.is_goal x.state ≡ false
        → r.link x.parent x.state v ≡ Some c
        → IsKnown r (x ∷ earlier) v (add_costs x.cost c)
    known_from n v c g l = by_test (is_taken r (x ∷ earlier) v) refl
      where
        taken_at : (u : Taken S) → IsIn u (x ∷ earlier) → u.state ≡ v → Most u.cost (add_costs x.cost c)
        taken_at u (here e) i = Most-more x.cost c
        taken_at u (there z e m) i =
            let sums : Most (sum_at r u.state u.cost) (sum_at r v (add_costs x.cost c)) =
            Most-then (n.rises u m) (link_rises x.parent x.state v x.cost c l) in
            Most-cancel_right (r.estimate v) u.cost (add_costs x.cost c)
            (subst (λ (s : S). Most (sum_at r s u.cost) (sum_at r v (add_costs x.cost c))) i sums)

        by_test : (b : Bool) → is_taken r (x ∷ earlier) v ≡ b → IsKnown r (x ∷ earlier) v (add_costs x.cost c)
        by_test true e = let t = taken_state (x ∷ earlier) v e in inl
            (record { by = t.0; member = t.1; is = t.2; most = taken_at t.0 t.1 t.2 })
        by_test false e =
            let k = lesser-late (least_offer r earlier v)
            (record { cost = add_costs x.cost c; from = x.state }) in
            inr (record {
              offer = k.0;
              waits = record
                  { untaken = e; offered = rw (offer-over r x v c g l) k.1 };
              most = record { is = k.2 };
            })

    relaxed_on : IsTakenNext → IsRelaxed r earlier → IsRelaxed r (x ∷ earlier)
    relaxed_on n rel u v c (here e) g l = known_from n v c g l
    relaxed_on n rel u v c (there z e m) g l = stays_known n v (add_costs u.cost c) (rel u v c m g l)

  -- before the start nothing waits, so that it is next in the same sense
  at_start : (x : Taken S) → IsTakenNext [] x
  at_start x = record {
    first = λ s o w. absurd (none s o w);
    at_least_offer = λ o w. absurd (none x.state o w);
    rises = λ u m. elim m [ ];
  }
    where
      none : (s : S) (o : Offer S) → Waits r [] s o → ⊥
      none s o w = let h = w.offered in cc

  pub sums_rise : (start : S) (run : List (Taken S)) → IsRun r start run → SumsRise r run
  sums_rise start [] is = absurd is
  sums_rise start (x ∷ []) is = rise_on [] x (at_start x)
  sums_rise start (x ∷ y ∷ earlier) is = let rise =
      sums_rise start (y ∷ earlier) is.0 in rise_on (y ∷ earlier) x (next_taken (y ∷ earlier) x rise is.2)

  pub relaxed : (start : S) (run : List (Taken S)) → IsRun r start run → IsRelaxed r run
  relaxed start [] is = absurd is
  relaxed start (x ∷ []) is = relaxed_on [] x (at_start x) (λ u v c m g l. elim m [ ])
  relaxed start (x ∷ y ∷ earlier) is =
      relaxed_on (y ∷ earlier) x (next_taken (y ∷ earlier) x (sums_rise start (y ∷ earlier) is.0) is.2)
      (relaxed start (y ∷ earlier) is.0)

  -- the start was taken at no cost
  pub start_known : (start : S) (run : List (Taken S)) → IsRun r start run → IsKnown r run start no_cost
  start_known start [] is = absurd is
  start_known start (x ∷ []) is = inl (record {
    by = x;
    member = here [];
    is = ap (λ (u : Taken S). u.state) is;
    most = Most-same
        (ap (λ (u : Taken S). u.cost) is);
  })
  start_known start (x ∷ y ∷ earlier) is =
      stays_known (y ∷ earlier) x (next_taken (y ∷ earlier) x (sums_rise start (y ∷ earlier) is.0) is.2) start
      no_cost (start_known start (y ∷ earlier) is.0)

  -- over a chain the estimate never falls by more than the chain costs
  pub estimate_along : (s t : S) (d : Cost) → Chain r s t d → Most (r.estimate s) (add_costs d (r.estimate t))
  estimate_along s t d (stays z) = Most-same (sym (add_costs-no_cost_left (r.estimate s)))
  estimate_along s t d (goes_on z v w b c l rest) =
      Most-then (record { is = fit.falls s s v b (l s) })
      (Most-then (Most-add_left b (r.estimate v) (add_costs c (r.estimate t)) (estimate_along v t c rest))
      (Most-same (sym (add_costs-assoc b c (r.estimate t)))))

  -- a state that waits with a sum of no more than this
  pub record WaitsBelow (run : List (Taken S)) (bound : Cost) : Type 0 where
    pub state : S
    pub offer : Offer S
    pub waits : Waits r run state offer
    pub most : Most (sum_at r state offer.cost) bound

  -- from a known state no chain to a state that was not taken undercuts all that waits
  none_below : (run : List (Taken S)) → IsRelaxed r run → has_goal r run ≡ false → (v t : S) (bound d : Cost)
      → IsKnown r run v bound → Chain r v t d → is_taken r run t ≡ false
      → WaitsBelow run (sum_at r t (add_costs bound d))
  none_below run rel none v t bound d (inr k) chain n = record {
    state = v;
    offer = k.offer;
    waits = k.waits;
    most = Most-then (Most-add_right (r.estimate v) k.offer.cost bound k.most)
        (Most-then (Most-add_left bound (r.estimate v) (add_costs d (r.estimate t))
        (estimate_along v t d chain))
        (Most-same (sym (add_costs-assoc bound d (r.estimate t)))));
  }
  none_below run rel none v t bound d (inl k) (stays z) n =
      absurd (let y : is_taken r run v ≡ true = ap (λ (s : S). is_taken r run s) (sym k.is)
      ∙ is_taken-member run k.by k.member in cc)
  none_below run rel none v t bound d (inl k) (goes_on z w u b c l rest) n =
      let link : r.link k.by.parent k.by.state w ≡ Some b =
      ap (λ (s : S). r.link k.by.parent s w) k.is ∙ l k.by.parent in
      let next = none_below run rel none w t (add_costs k.by.cost b) c
      (rel k.by w b k.member (no_goal run k.by none k.member) link) rest n in
      record {
        state = next.state;
        offer = next.offer;
        waits = next.waits;
        most = Most-then next.most (Most-add_right (r.estimate t) (add_costs (add_costs k.by.cost b) c)
            (add_costs bound (add_costs b c)) (Most-then (Most-same (add_costs-assoc k.by.cost b c))
            (Most-add_right (add_costs b c) k.by.cost bound k.most)));
      }

  -- where a chain leads from the start to a state that was not taken, some state waits with no greater sum
  pub waits_below : (start t : S) (run : List (Taken S)) (d : Cost) → IsRun r start run
      → has_goal r run ≡ false
      → is_taken r run t ≡ false → Chain r start t d → WaitsBelow run (sum_at r t d)
  waits_below start t run d is none n chain =
      let w = none_below run (relaxed start run is) none start t no_cost d (start_known start run is)
      chain n in
      record {
        state = w.state;
        offer = w.offer;
        waits = w.waits;
        most = Most-then w.most (Most-same (ap (λ (c : Cost). sum_at r t c) (add_costs-no_cost_left d)));
      }

  -- where no goal was taken a goal was not
  pub goal_untaken : (run : List (Taken S)) (t : S) → has_goal r run ≡ false → r.is_goal t ≡ true
      → is_taken r run t ≡ false
  goal_untaken run t none g = by_test (is_taken r run t) refl
    where
      by_test : (b : Bool) → is_taken r run t ≡ b → is_taken r run t ≡ false
      by_test false e = e
      by_test true e =
          let u = taken_state run t e in
          absurd (let no : r.is_goal u.0.state ≡ false = no_goal run u.0 none u.1 in
          let yes : r.is_goal u.0.state
          ≡ true = ap r.is_goal u.2 ∙ g in cc)

  -- the next state's sum is at most that of every chain to a state that was not taken
  next_below : (start t : S) (x : Taken S) (earlier : List (Taken S)) (d : Cost) → IsRun r start earlier
      → has_goal r earlier ≡ false → IsNext r earlier x → is_taken r earlier t ≡ false → Chain r start t d
      → Most (sum_at r x.state x.cost) (sum_at r t d)
  next_below start t x earlier d is none next n chain =
      let w = waits_below start t earlier d is none n chain in
      let first = (next_taken earlier x (sums_rise start earlier is) next).first in
      Most-then (first w.state w.offer w.waits) w.most

  -- a taken state has its least cost
  pub taken_is_least : (start : S) (run : List (Taken S)) (u : Taken S) (d : Cost) → IsRun r start run
      → IsIn u run → Chain r start u.state d → Most u.cost d
  taken_is_least start [] u d is m chain = absurd is
  taken_is_least start (x ∷ []) u d is (there z e m) chain = elim m [ ]
  taken_is_least start (x ∷ []) u d is (here e) chain =
      Most-then (Most-same (ap (λ (w : Taken S). w.cost) is)) (Most-nothing d)
  taken_is_least start (x ∷ y ∷ earlier) u d is (there z e m) chain =
      taken_is_least start (y ∷ earlier) u d is.0 m chain
  taken_is_least start (x ∷ y ∷ earlier) u d is (here e) chain =
      Most-cancel_right (r.estimate x.state) x.cost d
      (next_below start x.state x (y ∷ earlier) d is.0 is.1 is.2 is.2.waits chain)

  -- a goal is taken at a cost that undercuts no chain to any goal
  pub run_is_least : (start t : S) (x : Taken S) (earlier : List (Taken S)) (d : Cost)
      → IsRun r start (x ∷ earlier) → r.is_goal x.state ≡ true → Chain r start t d → r.is_goal t ≡ true
      → Most x.cost d
  run_is_least start t x [] d is gx chain gt =
      Most-then (Most-same (ap (λ (u : Taken S). u.cost) is)) (Most-nothing d)
  run_is_least start t x (y ∷ earlier) d is gx chain gt =
      let below = next_below start t x (y ∷ earlier) d is.0 is.1 is.2
      (goal_untaken (y ∷ earlier) t is.1 gt) chain in
      Most-then (Most-same (sym (at_goal x.state x.cost gx)))
      (Most-then below (Most-same (at_goal t d gt)))
    where
      at_goal : (s : S) (c : Cost) → r.is_goal s ≡ true → sum_at r s c ≡ c
      at_goal s c g = ap (λ (e : Cost). add_costs c e) (fit.nothing s g) ∙ add_costs-no_cost_right c

  -- a state whose sum by some chain is below that of the last taken one was taken
  pub lower_taken : (start t : S) (x : Taken S) (earlier : List (Taken S)) (d : Cost)
      → IsRun r start (x ∷ earlier) → Chain r start t d
      → IsLess (sum_at r t d) (sum_at r x.state x.cost) → is_taken r (x ∷ earlier) t ≡ true
  lower_taken start t x [] d is chain less =
      absurd (IsAtMost-not_more (sum_at r x.state x.cost) (sum_at r t d) at_most less)
    where
      at_most : IsAtMost (sum_at r x.state x.cost) (sum_at r t d)
      at_most = rw is (Most-then (Most-same (add_costs-no_cost_left (r.estimate start)))
          (estimate_along start t d chain)).is
  lower_taken start t x (y ∷ earlier) d is chain less = by_test (is_taken r (y ∷ earlier) t) refl
    where
      by_test : (b : Bool) → is_taken r (y ∷ earlier) t ≡ b → is_taken r (x ∷ y ∷ earlier) t ≡ true
      by_test true e = or_right (r.is_same x.state t) (is_taken r (y ∷ earlier) t) e
      by_test false e = absurd (IsAtMost-not_more (sum_at r x.state x.cost) (sum_at r t d)
          (next_below start t x (y ∷ earlier) d is.0 is.1 is.2 e chain).is less)

  -- where nothing waits and no goal was taken, every state to which a chain leads was taken
  pub all_taken : (start t : S) (run : List (Taken S)) (d : Cost) → IsRun r start run → NoneWaits r run
      → has_goal r run ≡ false → Chain r start t d → is_taken r run t ≡ true
  all_taken start t run d is none g chain = by_test (is_taken r run t) refl
    where
      by_test : (b : Bool) → is_taken r run t ≡ b → is_taken r run t ≡ true
      by_test true e = e
      by_test false e =
          let w = waits_below start t run d is g e chain in
          absurd (let s : Some w.offer ≡ None = sym w.waits.offered ∙ none w.state w.waits.untaken in cc)

  -- and so no chain leads to a goal
  pub run_finds_all : (start t : S) (run : List (Taken S)) (d : Cost) → IsRun r start run → NoneWaits r run
      → has_goal r run ≡ false → Chain r start t d → r.is_goal t ≡ true → ⊥
  run_finds_all start t run d is none g chain gt =
      let yes = all_taken start t run d is none g chain in
      let no = goal_untaken run t g gt in
      cc

  -- the sum of the last taken state is the greatest
  pub below_last : (start : S) (x : Taken S) (earlier : List (Taken S)) (u : Taken S)
      → IsRun r start (x ∷ earlier) → IsIn u (x ∷ earlier)
      → Most (sum_at r u.state u.cost) (sum_at r x.state x.cost)
  below_last start x earlier u is (here e) = Most-same refl
  below_last start x [] u is (there z e m) = elim m [ ]
  below_last start x (y ∷ earlier) u is (there z e m) =
      (next_taken (y ∷ earlier) x (sums_rise start (y ∷ earlier) is.0) is.2).rises u m

  -- taken states never have a greater sum than later ones, and a link never lowers it: so no offer of the
  -- last taken state betters a taken one
  pub taken_not_bettered : (start : S) (x : Taken S) (earlier : List (Taken S)) (u : Taken S) (c : Cost)
      → IsRun r start (x ∷ earlier) → IsIn u (x ∷ earlier) → r.link x.parent x.state u.state ≡ Some c
      → Most u.cost (add_costs x.cost c)
  taken_not_bettered start x earlier u c is m l =
      Most-cancel_right (r.estimate u.state) u.cost (add_costs x.cost c)
      (Most-then (below_last start x earlier u is m) (link_rises x.parent x.state u.state x.cost c l))
