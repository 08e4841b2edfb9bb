-- What is known of a state: the cost at which it was taken, or else its least offer.
use Rattle.std.proofs.Common.{◌≡◌, ◌⊎◌, inl, inr, refl, ap, sym, Bool, true, false}
use Rattle.std.specs.Prelude.{Option, Some, None, if◌then◌else◌}
use Rattle.root2_cost.specs.declared.Cost.{Cost}
use Rattle.root2_cost.specs.Order.{is_less, IsAtMost}
use Rattle.root2_cost.specs.Sums.{add_costs}
use Rattle.root2_cost.proofs.AtMost.{IsAtMost-refl, less_at_most}
use Rattle.search_run.specs.Run.{Rule, Taken, Offer, offer, offer_by, lesser}

-- the lesser of two offers is at most the early one
pub lesser-early : {S : Type 0} (e : Offer S) (late : Option (Offer S))
    → (o : Offer S) × (lesser (Some e) late ≡ Some o) × IsAtMost o.cost e.cost
lesser-early e None = (e, refl, IsAtMost-refl e.cost)
lesser-early {S} e (Some l) = by_test (is_less l.cost e.cost) refl
  where
    by_test : (b : Bool) → is_less l.cost e.cost ≡ b
        → (o : Offer S) × ((if b then Some l else Some e) ≡ Some o) × IsAtMost o.cost e.cost
    by_test true h = (l, refl, less_at_most l.cost e.cost h)
    by_test false h = (e, refl, IsAtMost-refl e.cost)

-- and at most the late one
pub lesser-late : {S : Type 0} (early : Option (Offer S)) (l : Offer S)
    → (o : Offer S) × (lesser early (Some l) ≡ Some o) × IsAtMost o.cost l.cost
lesser-late None l = (l, refl, IsAtMost-refl l.cost)
lesser-late {S} (Some e) l = by_test (is_less l.cost e.cost) refl
  where
    by_test : (b : Bool) → is_less l.cost e.cost ≡ b
        → (o : Offer S) × ((if b then Some l else Some e) ≡ Some o) × IsAtMost o.cost l.cost
    by_test true h = (l, refl, IsAtMost-refl l.cost)
    by_test false h = (e, refl, h)

-- the lesser of two offers is one of them
pub lesser-one : {S : Type 0} (early late : Option (Offer S)) (o : Offer S) → lesser early late ≡ Some o
    → (early ≡ Some o) ⊎ (late ≡ Some o)
lesser-one None late o h = inr h
lesser-one (Some e) None o h = inl h
lesser-one (Some e) (Some l) o h = by_test (is_less l.cost e.cost) h
  where
    by_test : (b : Bool) → (if b then Some l else Some e) ≡ Some o → (Some e ≡ Some o) ⊎ (Some l ≡ Some o)
    by_test true h = inr h
    by_test false h = inl h

-- an offer is made over a link
pub record IsOffered {S : Type 0} (r : Rule S) (u : Taken S) (s : S) (o : Offer S) : Type 0 where
  pub step : Cost
  pub linked : r.link u.parent u.state s ≡ Some step
  pub open_ended : r.is_goal u.state ≡ false
  pub total : o.cost ≡ add_costs u.cost step
  pub source : o.from ≡ u.state

offer_is : {S : Type 0} → Offer S → Option (Offer S) → Offer S
offer_is o None = o
offer_is o (Some p) = p

some_offer : {S : Type 0} (a b : Offer S) → Some a ≡ Some b → a ≡ b
unfolding offer_is
some_offer {S} a b e = ap (λ (q : Option (Offer S)). offer_is a q) e

pub offer-made : {S : Type 0} (r : Rule S) (u : Taken S) (s : S) (o : Offer S) → offer r u s ≡ Some o
    → IsOffered r u s o
offer-made {S} r u s o h = by_goal (r.is_goal u.state) refl h
  where
    by_link : (l : Option Cost) → r.link u.parent u.state s ≡ l → r.is_goal u.state ≡ false
        → offer_by u l ≡ Some o
        → IsOffered r u s o
    by_link None e g h = absurd (cc)
    by_link (Some c) e g h = record {
      step = c;
      linked = e;
      open_ended = g;
      total
          = ap (λ (p : Offer S). p.cost) (sym
          (some_offer (record { cost = add_costs u.cost c; from = u.state }) o h));
      source
          = ap (λ (p : Offer S). p.from) (sym
          (some_offer (record { cost = add_costs u.cost c; from = u.state }) o h));
    }

    by_goal : (b : Bool) → r.is_goal u.state ≡ b
        → (if b then None else offer_by u (r.link u.parent u.state s)) ≡ Some o → IsOffered r u s o
    by_goal true g h = absurd (cc)
    by_goal false g h = by_link (r.link u.parent u.state s) refl g h

pub offer-over : {S : Type 0} (r : Rule S) (u : Taken S) (s : S) (c : Cost) → r.is_goal u.state ≡ false
    → r.link u.parent u.state s ≡ Some c → offer r u s
    ≡ Some (record { cost = add_costs u.cost c; from = u.state })
offer-over r u s c g l = rw (g, l) refl
