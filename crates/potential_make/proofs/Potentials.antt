-- The potential of a least cost with its closed cells: what it is, and that no legal move raises it by more
-- than its cost.
use Rattle.std.proofs.lemmas.Bool.Decides.{nat_tests}
use Rattle.std.proofs.Common.{◌≡◌, ℕ, zero, suc, ◌+◌, ◌<◌, ◌⊎◌, inl, inr, length, List, [], ◌∷◌, ◌++◌, refl}
use Rattle.std.proofs.Common.{ap, ◌∙◌, subst, arith, Bool, true, false}
use Rattle.std.specs.Prelude.{pos, ◌+ℤ◌, ◌-ℤ◌, Option, Some, None, slice_index_or}
use Rattle.std.specs.List.{Contains}
use Rattle.std.proofs.lemmas.Int.{ints}
use Rattle.root2_cost.specs.declared.Cost.{Cost}
use Rattle.root2_cost.specs.Order.{is_less, IsLess, IsAtMost}
use Rattle.root2_cost.specs.Signed.{add_signed, cost_difference, is_signed_less, signed_of}
use Rattle.root2_cost.specs.Sums.{add_costs, no_cost}
use Rattle.root2_cost.proofs.AtMost.{IsAtMost-not_more, IsAtMost-or_more, IsAtMost-trans, less_at_most}
use Rattle.root2_cost.proofs.Differences.{same_signed}
use Rattle.root2_cost.proofs.Sums.{IsAtMost-add_left, IsAtMost-add_right, IsLess-moved}
use Rattle.grid_moves.specs.declared.Cell.{Cell}
use Rattle.grid_moves.specs.Grid.{GridData, is_free}
use Rattle.grid_moves.specs.Move.{is_legal, is_same, move_cost}
use Rattle.grid_moves.specs.Points.{estimate}
use Rattle.grid_moves.specs.Walk.{NoWalk, cost_of}
use Rattle.grid_moves.proofs.Legal.{is_same-cell, is_same-itself}
use Rattle.path_points.specs.declared.points.Walk.{Walk}
use Rattle.path_points.specs.Least.{IsLeastOrNone}
use Rattle.plain_search.specs.Lists.{AreClosed, IsBelow, IsLeastCost}
use Rattle.plain_search.specs.Answer.{plain_found}
use Rattle.plain_search.proofs.Answering.{answers_are}
use Rattle.plain_search.proofs.LeastCosts.{one_least}
use Rattle.grid_moves.proofs.Walks.{Goes, one_more}
use Rattle.grid_moves.proofs.Consistent.{estimate_falls}
use Rattle.potential_check.specs.Potential.{IsFeasible, potential_of}
use Rattle.potential_make.specs.Certified.{HasPotential}

-- the same difference keeps the order
at_most_moved : (p q r s : Cost) → IsAtMost p q → r.a + q.a ≡ s.a + p.a → r.b + q.b ≡ s.b + p.b → IsAtMost r s
at_most_moved p q r s h e f = elim (IsAtMost-or_more r s) [
  | inl most ↦ most
  | inr less ↦ absurd (IsAtMost-not_more p q h (IsLess-moved s r q p less (omega arith) (omega arith)))
]

rise_is : (a b d e s : ℕ) → (pos d -ℤ pos e) -ℤ ((pos a -ℤ pos b) +ℤ pos s) ≡ pos (d + b) -ℤ pos ((a + s) + e)
rise_is a b d e s = omega (arith, ints)

-- from the difference of a and b a move leads to at most that of d and e
no_rise : (a b d e step : Cost) → IsAtMost (add_costs d b) (add_costs (add_costs a step) e)
    → is_signed_less (add_signed (cost_difference a b) (signed_of step)) (cost_difference d e) ≡ false
no_rise a b d e step h1 = grind (arith, nat_tests, rise_is)

less_nothing : (n : ℕ) → pos n ≡ pos n -ℤ pos 0
less_nothing n = omega (arith, ints)

-- a cost is its difference from nothing
pub signed_is : (c : Cost) → signed_of c ≡ cost_difference c no_cost
signed_is c = same_signed (signed_of c) (cost_difference c no_cost) (less_nothing c.a) (less_nothing c.b)

-- and the difference of equal costs is nothing
pub same_nothing : (p q : Cost) → p ≡ q → cost_difference p q ≡ signed_of no_cost
same_nothing p q h1 = grind (arith, nat_tests, same_signed, ints)

-- what a list says of a cell
pub record Listed (t : Cell) (cost : Cost) (values : List (Cell × Cost)) (c : Cell)
    (paid : Cost) : Type 0 where
  pub contained : Contains values (c, paid)
  pub value : potential_of cost t values c ≡ signed_of paid

pub record Unlisted (t : Cell) (cost : Cost) (values : List (Cell × Cost)) (c : Cell) : Type 0 where
  pub none : (paid : Cost) → Contains values (c, paid) → ⊥
  pub value : potential_of cost t values c ≡ cost_difference cost (estimate c t)

by_list : (t : Cell) (cost : Cost) (values : List (Cell × Cost)) (c : Cell)
    → ((paid : Cost) × Listed t cost values c paid) ⊎ Unlisted t cost values c
by_list t cost [] c = inr (record { none = λ paid m. omega (arith, m.1); value = refl })
by_list t cost (e ∷ values) c = by_test (by_list t cost values c) (is_same e.0 c) refl
  where
    by_place : is_same e.0 c ≡ false → ((paid : Cost) → Contains values (c, paid) → ⊥) → (paid : Cost) (k : ℕ)
        → k < length (e ∷ values) → slice_index_or (e ∷ values) k (c, paid) ≡ (c, paid) → ⊥
    by_place f none paid zero h q =
        let same : is_same e.0 c ≡ true = ap (λ (x : Cell × Cost). is_same x.0 c) q ∙ is_same-itself c in cc
    by_place f none paid (suc k) h q = none paid (k, omega arith, q)

    by_test : ((paid : Cost) × Listed t cost values c paid) ⊎ Unlisted t cost values c → (b : Bool)
        → is_same e.0 c ≡ b → ((paid : Cost) × Listed t cost (e ∷ values) c paid)
        ⊎ Unlisted t cost (e ∷ values) c
    by_test rest true f = inl (
      e.1,
      record {
        contained =
            (0, omega arith, ap (λ (d : Cell). let x : Cell × Cost = (d, e.1) in x) (is_same-cell e.0 c f));
        value = rw f refl;
      },
    )
    by_test (inl l) false f = inl (
      l.0,
      record {
        contained = (suc l.1.contained.0, omega (arith, l.1.contained.1), l.1.contained.2);
        value = rw f l.1.value;
      },
    )
    by_test (inr u) false f = inr (record {
      none = λ paid m. by_place f u.none paid m.0 m.1 m.2;
      value = rw f u.value;
    })

-- the potential of a cell by whether a walk leads to it
pub data Height (g : GridData) (s t : Cell) (cost : Cost) (values : List (Cell × Cost))
    (c : Cell) : Type 0 where
  near : (paid : Cost) → IsLeastCost g s c paid → IsBelow t cost c paid
      → potential_of cost t values c ≡ cost_difference paid no_cost → Height g s t cost values c
  far : (paid : Cost) → IsLeastCost g s c paid → is_less (add_costs paid (estimate c t)) cost ≡ false
      → potential_of cost t values c ≡ cost_difference cost (estimate c t) → Height g s t cost values c
  beyond : NoWalk g s c → potential_of cost t values c ≡ cost_difference cost (estimate c t)
      → Height g s t cost values c

module _ (g : GridData) (s t : Cell) (cost : Cost) (values : List (Cell × Cost))
    (closed : AreClosed g s t cost values)
  where
    pub has_potential : HasPotential g s t cost values
    has_potential = record {
      near = λ c paid least below. elim (by_list t cost values c) [
        | inl l ↦
            l.1.value ∙ ap signed_of (one_least g s c l.0 paid (closed.only c l.0 l.1.contained).0 least)
        | inr u ↦ absurd (u.none paid (closed.all c paid least below))
      ];
      far = λ c paid least above. elim (by_list t cost values c) [
        | inl l ↦ absurd (let o = closed.only c l.0 l.1.contained in
            let same : l.0 ≡ paid = one_least g s c l.0 paid o.0 least in
            let yes : is_less (add_costs paid (estimate c t)) cost ≡ true =
            subst (λ (d : Cost). IsLess (add_costs d (estimate c t)) cost) same o.1 in cc)
        | inr u ↦ u.value
      ];
      beyond = λ c none. elim (by_list t cost values c) [
        | inl l ↦ absurd (let o = closed.only c l.0 l.1.contained in none o.0.cells o.0.least.walk)
        | inr u ↦ u.value
      ];
    }

    module _ (from : is_free g s ≡ true) where
      height_at : (c : Cell) → Height g s t cost values c
      height_at c = by_answer (plain_found g s c).walk (answers_are.least g s c from)
        where
          by_sum : (paid : Cost) → IsLeastCost g s c paid → (b : Bool)
              → is_less (add_costs paid (estimate c t)) cost ≡ b → Height g s t cost values c
          by_sum paid least true e = near paid least e (has_potential.near c paid least e ∙ signed_is paid)
          by_sum paid least false e = far paid least e (has_potential.far c paid least e)

          by_answer : (o : Option Walk) → IsLeastOrNone g s c o → Height g s t cost values c
          by_answer (Some w) is =
              by_sum w.cost (record { cells = is.cells; least = is.least; priced = is.priced })
              (is_less (add_costs w.cost (estimate c t)) cost) refl
          by_answer None is = beyond is (has_potential.beyond c is)

      -- a walk at the least cost, and a move more
      move_on : (u v : Cell) → is_legal g u v ≡ true → (p : Cost) (a : IsLeastCost g s u p)
          → Goes g s v (a.cells ++ (v ∷ [])) (add_costs p (move_cost u v))
      move_on u v l p a = one_more g s u v a.cells p
          (record { legal = a.least.walk.legal; ends = a.least.walk.ends; priced = a.priced }) l

      -- over a move the least cost rises by at most its cost
      climbs : (u v : Cell) → is_legal g u v ≡ true → (p q : Cost) → IsLeastCost g s u p → IsLeastCost g s v q
          → IsAtMost q (add_costs p (move_cost u v))
      climbs u v l p q a b =
          let on = move_on u v l p a in
          let most = b.least.least (a.cells ++ (v ∷ [])) (record { legal = on.legal; ends = on.ends }) in
          subst (λ (c : Cost). IsAtMost c (add_costs p (move_cost u v))) b.priced
          (subst (λ (c : Cost). IsAtMost (cost_of (s ∷ b.cells)) c) on.priced most)

      walk_on : (u v : Cell) → is_legal g u v ≡ true → (p : Cost) → IsLeastCost g s u p → NoWalk g s v → ⊥
      walk_on u v l p a none =
          let on = move_on u v l p a in
          none (a.cells ++ (v ∷ [])) (record { legal = on.legal; ends = on.ends })

      from_far : (u v : Cell) → is_legal g u v ≡ true → (q : Cost) → IsBelow t cost v q
          → is_signed_less (add_signed (cost_difference cost (estimate u t)) (signed_of (move_cost u v)))
          (cost_difference q no_cost) ≡ false
      from_far u v l q under =
          let less = less_at_most (add_costs q (estimate v t)) cost under in
          let step = IsAtMost-add_left q (estimate u t) (add_costs (move_cost u v) (estimate v t))
          (estimate_falls g u v t l) in
          let more = IsAtMost-add_left (move_cost u v) (add_costs q (estimate v t)) cost less in
          let both = IsAtMost-trans (add_costs q (estimate u t))
          (add_costs q (add_costs (move_cost u v) (estimate v t)))
          (add_costs (move_cost u v) cost) step
          (at_most_moved (add_costs (move_cost u v) (add_costs q (estimate v t)))
          (add_costs (move_cost u v) cost)
          (add_costs q (add_costs (move_cost u v) (estimate v t))) (add_costs (move_cost u v) cost) more
          (omega arith) (omega arith)) in
          no_rise cost (estimate u t) q no_cost (move_cost u v)
          (at_most_moved (add_costs q (estimate u t)) (add_costs (move_cost u v) cost)
          (add_costs q (estimate u t))
          (add_costs (add_costs cost (move_cost u v)) no_cost) both (omega arith) (omega arith))

      from_far_on : (u v : Cell) → is_legal g u v ≡ true
          → is_signed_less (add_signed (cost_difference cost (estimate u t)) (signed_of (move_cost u v)))
          (cost_difference cost (estimate v t)) ≡ false
      from_far_on u v l =
          let step = IsAtMost-add_left cost (estimate u t) (add_costs (move_cost u v) (estimate v t))
          (estimate_falls g u v t l) in
          no_rise cost (estimate u t) cost (estimate v t) (move_cost u v)
          (at_most_moved (add_costs cost (estimate u t))
          (add_costs cost (add_costs (move_cost u v) (estimate v t)))
          (add_costs cost (estimate u t)) (add_costs (add_costs cost (move_cost u v)) (estimate v t)) step
          (omega arith) (omega arith))

      -- the differences at both ends of a move are such that it doesn't raise by more than its cost
      between : (u v : Cell) → is_legal g u v ≡ true → Height g s t cost values u → Height g s t cost values v
          → is_signed_less (add_signed (potential_of cost t values u) (signed_of (move_cost u v)))
          (potential_of cost t values v) ≡ false
      between u v l (near p a below e) (near q b under f) =
          rw (e, f) (no_rise p no_cost q no_cost (move_cost u v)
          (at_most_moved q (add_costs p (move_cost u v)) (add_costs q no_cost)
          (add_costs (add_costs p (move_cost u v)) no_cost) (climbs u v l p q a b) (omega arith)
          (omega arith)))
      between u v l (near p a below e) (far q b above f) =
          let most : IsAtMost cost (add_costs q (estimate v t)) = above in
          let up = IsAtMost-add_right (estimate v t) q (add_costs p (move_cost u v)) (climbs u v l p q a b) in
          let both = IsAtMost-trans cost (add_costs q (estimate v t))
          (add_costs (add_costs p (move_cost u v)) (estimate v t)) most up in
          rw (e, f) (no_rise p no_cost cost (estimate v t) (move_cost u v)
          (at_most_moved cost (add_costs (add_costs p (move_cost u v)) (estimate v t))
          (add_costs cost no_cost)
          (add_costs (add_costs p (move_cost u v)) (estimate v t)) both (omega arith) (omega arith)))
      between u v l (near p a below e) (beyond none f) = absurd (walk_on u v l p a none)
      between u v l (far p a above e) (near q b under f) = rw (e, f) (from_far u v l q under)
      between u v l (far p a above e) (far q b over f) = rw (e, f) (from_far_on u v l)
      between u v l (far p a above e) (beyond none f) = rw (e, f) (from_far_on u v l)
      between u v l (beyond none e) (near q b under f) = rw (e, f) (from_far u v l q under)
      between u v l (beyond none e) (far q b over f) = rw (e, f) (from_far_on u v l)
      between u v l (beyond none e) (beyond never f) = rw (e, f) (from_far_on u v l)

      pub feasible : IsFeasible g (potential_of cost t values)
      feasible u v l = between u v l (height_at u) (height_at v)
