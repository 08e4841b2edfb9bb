-- The parent of a taken state, and offers that it has made already.
use Rattle.std.proofs.Common.{◌≡◌, refl, ap, sym, ◌∙◌, Bool, false, List, [], ◌∷◌}
use Rattle.std.specs.Prelude.{Option, Some, None}
use Rattle.root2_cost.specs.declared.Cost.{Cost}
use Rattle.root2_cost.specs.Order.{IsAtMost, is_less}
use Rattle.root2_cost.specs.Sums.{add_costs}
use Rattle.root2_cost.proofs.Most.{Most, Most-then, Most-same, Most-add_left}
use Rattle.root2_cost.proofs.Sums.{add_costs-assoc}
use Rattle.search_run.specs.Run.{Rule, Taken, Offer, IsIn, here, there, IsRun, offer, lesser, least_offer}
use Rattle.search_run.proofs.Offers.{lesser-early, lesser-late, offer-made, offer-over}
use Rattle.search_run.proofs.Leastness.{least_offer-from}

cost_in : Cost → Option Cost → Cost
cost_in c None = c
cost_in c (Some d) = d

module _ {S : Type 0} (r : Rule S) where
  -- the state that offered a taken one its cost
  pub record HasParent (earlier : List (Taken S)) (x : Taken S) (b : Cost) : Type 0 where
    pub by : Taken S
    pub member : IsIn by earlier
    pub state : by.state ≡ x.parent
    pub open_ended : r.is_goal by.state ≡ false
    pub total : x.cost ≡ add_costs by.cost b

  pub parent_of : (start : S) (x y : Taken S) (earlier : List (Taken S)) (b : Cost)
      → IsRun r start (x ∷ y ∷ earlier) → ((p : S) → r.link p x.parent x.state ≡ Some b)
      → HasParent (y ∷ earlier) x b
  unfolding cost_in
  parent_of start x y earlier b is l =
      let f = least_offer-from r (y ∷ earlier) x.state (record { cost = x.cost; from = x.parent })
      is.2.offered in
      let at_parent : f.by.state ≡ x.parent = sym f.offered.source in
      let same : Some f.offered.step ≡ Some b =
      sym f.offered.linked ∙ ap (λ (s : S). r.link f.by.parent s x.state) at_parent ∙ l f.by.parent in
      record {
        by = f.by;
        member = f.member;
        state = at_parent;
        open_ended = f.offered.open_ended;
        total = f.offered.total
            ∙ ap (λ (o : Option Cost). add_costs f.by.cost (cost_in b o)) same;
      }

  -- the least offer is at most each that is made
  pub least_offer-most : (run : List (Taken S)) (p : Taken S) (v : S) (c : Cost) → IsIn p run
      → r.is_goal p.state ≡ false → r.link p.parent p.state v ≡ Some c
      → (o : Offer S) × (least_offer r run v ≡ Some o) × Most o.cost (add_costs p.cost c)
  least_offer-most [] p v c m g l = elim m [ ]
  least_offer-most (x ∷ earlier) p v c (here e) g l =
      let k = lesser-late (least_offer r earlier v) (record { cost = add_costs p.cost c; from = p.state }) in
      (k.0, rw (offer-over r p v c g l) k.1, record { is = k.2 })
  least_offer-most (x ∷ earlier) p v c (there z e m) g l =
      let before = least_offer-most earlier p v c m g l in
      let k = lesser-early before.0 (offer r x v) in
      (k.0, rw before.1 k.1, Most-then (record { is = k.2 }) before.2)

  -- an offer that is not below an earlier one changes nothing
  pub later_offer : (earlier : List (Taken S)) (x p : Taken S) (v : S) (c d : Cost) → IsIn p earlier
      → r.is_goal p.state ≡ false → r.link p.parent p.state v ≡ Some c → r.link x.parent x.state v ≡ Some d
      → Most (add_costs p.cost c) (add_costs x.cost d) → least_offer r (x ∷ earlier) v
      ≡ least_offer r earlier v
  later_offer earlier x p v c d m g lp lx most =
      let k = least_offer-most earlier p v c m g lp in
      rw k.1 (by_offer k.0 k.2 (offer r x v) refl)
    where
      drops : (e o : Offer S) → (b : Bool) → is_less o.cost e.cost ≡ b → b ≡ false
          → lesser (Some e) (Some o) ≡ Some e
      drops e o b t f = rw (t, f) refl

      by_offer : (e : Offer S) → Most e.cost (add_costs p.cost c) → (q : Option (Offer S)) → offer r x v ≡ q
          → lesser (Some e) q ≡ Some e
      by_offer e low None f = refl
      by_offer e low (Some o) f =
          let made = offer-made r x v o f in
          let same : Some made.step ≡ Some d = sym made.linked ∙ lx in
          let step : made.step ≡ d = ap (λ (q : Option Cost). elim q as (λ _. Cost)
          [ Some z ↦ z | None ↦ d ]) same in
          let total : add_costs x.cost d ≡ o.cost =
          ap (λ (z : Cost). add_costs x.cost z) (sym step) ∙ sym made.total in
          drops e o (is_less o.cost e.cost) refl (Most-then low (Most-then most (Most-same total))).is

  -- so the parent's offers stand
  pub parent_offers : (start : S) (x y : Taken S) (earlier : List (Taken S)) (v : S) (b c d : Cost)
      → IsRun r start (x ∷ y ∷ earlier) → ((p : S) → r.link p x.parent x.state ≡ Some b)
      → ((p : S) → r.link p x.parent v ≡ Some c) → r.link x.parent x.state v ≡ Some d
      → IsAtMost c (add_costs b d)
      → least_offer r (x ∷ y ∷ earlier) v ≡ least_offer r (y ∷ earlier) v
  parent_offers start x y earlier v b c d is lb lc ld most =
      let p = parent_of start x y earlier b is lb in
      later_offer (y ∷ earlier) x p.by v c d p.member p.open_ended
      (ap (λ (s : S). r.link p.by.parent s v) p.state ∙ lc p.by.parent)
      ld (Most-then (Most-add_left p.by.cost c (add_costs b d) (record { is = most }))
      (Most-then (Most-same (sym (add_costs-assoc p.by.cost b d)))
      (Most-same (ap (λ (z : Cost). add_costs z d) (sym p.total)))))
