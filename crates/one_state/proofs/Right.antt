-- A goal is taken at a least cost, and where nothing is offered without it, no walk leads there; no more
-- cells are taken than the map has.
use Rattle.std.proofs.lemmas.Bool.{ne_eqb}
use Rattle.std.proofs.lemmas.Bool.Decides.{nat_tests}
use Rattle.std.proofs.lemmas.Grind.{common_steps}
use Rattle.std.proofs.lemmas.List.{length-map}
use Rattle.std.proofs.lemmas.Map.Steps.{length-le_from_distinct_below}
use Rattle.std.proofs.Common.{◌≡◌, ℕ, ◌<◌, ◌≤◌, ◌*◌, inl, inr, refl, ap, sym, ◌∙◌, subst, arith}
use Rattle.std.proofs.Common.{true, false, List, [], ◌∷◌, eqb, map, length}
use Rattle.std.specs.Prelude.{Option, Some, None}
use Rattle.std.specs.List.{AllByRecursion, IsDistinct, list_any}
use Rattle.root2_cost.specs.declared.Cost.{Cost}
use Rattle.root2_cost.specs.declared.Signed.{Signed}
use Rattle.root2_cost.specs.Signed.{signed_of, add_signed}
use Rattle.root2_cost.proofs.Most.{Most, Most-then, Most-same, Most-nothing}
use Rattle.grid_moves.specs.declared.Cell.{Cell}
use Rattle.grid_moves.specs.Grid.{GridData, cell_number, is_free}
use Rattle.grid_moves.specs.Walk.{IsWalk, IsLeastWalk, NoWalk, cost_of}
use Rattle.grid_moves.proofs.Legal.{free_inside}
use Rattle.grid_moves.proofs.Places.{free_below, one_cell}
use Rattle.grid_moves.proofs.Walks.{last_free}
use Rattle.cost_waves.specs.Begin.{IsCostTo, IsLeastCost}
use Rattle.pruning.specs.Explored.{Reached, HopsTo, OffersMore}
use Rattle.pruning.proofs.Exploring.{CameTo, came_to, one_state_from}
use Rattle.pruning.proofs.Swapping.{dropped_turns_are_swapped, diagonals_go_first}
use Rattle.plain_search.specs.Costs.{least_cost}
use Rattle.plain_search.proofs.LeastCosts.{cost_is}
use Rattle.one_state.specs.Search.{Search, IsSound, Taken, begins, as_reached, Offers, IsIn, here, there}
use Rattle.one_state.specs.Search.{HasCell, IsOffered, sum_of, IsRun, begun, further}
use Rattle.one_state.proofs.Sums.{Below, Below-then, Below-same, Below-add_left, of_costs, to_costs}
use Rattle.one_state.proofs.Sums.{signed_sum, add_signed-nothing_right}
use Rattle.one_state.proofs.Estimates.{never_exceeds}
use Rattle.one_state.proofs.Settling.{each_of, no_member, is_reached, was_taken, are_kept, are_reached}

module _ (p : Search) (sound : IsSound p) where
  abbrev g : GridData
  g = p.grid

  abbrev s : Cell
  s = p.start

  abbrev t : Cell
  t = p.goal

  -- a cell of a least walk is offered, as long as the goal was not taken
  record OffersWithin (taken : List Taken) (bound : Cost) : Type 0 where
    to : Taken
    offered : IsOffered p taken to
    most : Below (sum_of p to) (signed_of bound)

  -- what one of these offers, with its parent
  with_parent : (u : Taken) (w x : Reached) (h : HopsTo g t w x) → as_reached u ≡ w
      → p.stops w h.dir h.moves ≡ true
      → Offers p u (record { state = x.state; cost = x.cost; parent = u.state.cell })
  with_parent u w x h e k = in_place w (sym e) h k
    where
      in_place : (w : Reached) → w ≡ as_reached u → (h : HopsTo g t w x) → p.stops w h.dir h.moves ≡ true
          → Offers p u (record { state = x.state; cost = x.cost; parent = u.state.cell })
      in_place w e h k = subst
          (λ (v : Reached). (h : HopsTo g t v x) → p.stops v h.dir h.moves ≡ true
          → Offers p u (record { state = x.state; cost = x.cost; parent = u.state.cell })) (sym e)
          (λ h k. record {
            dir = h.dir;
            moves = h.moves;
            hop = h.hop;
            stops_there = k;
            priced = h.priced;
            parent = refl;
          }) h k

  offers_within : (taken : List Taken) (cells : List Cell) → IsRun p taken → ¬ HasCell taken t
      → IsLeastWalk g s t cells → OffersWithin taken (cost_of (s ∷ cells))
  offers_within [] cells r n least = elim r [ ]
  offers_within (x ∷ earlier) cells r n least =
      let all = x ∷ earlier in
      let o : OffersMore g t p.stops (map as_reached all) (cost_of (s ∷ cells)) =
      one_state_from dropped_turns_are_swapped diagonals_go_first g s t p.stops (map as_reached all) cells
      sound.free (are_reached p sound all r) (λ u m. sound.stops_in_time u)
      (λ u m e. let w = was_taken all u m in
      n (record { by = w.by; member = w.member; is = ap (λ (v : Reached). v.state.cell) w.is ∙ e })) least in
      let w = was_taken all o.by o.member in
      let to : Taken =
      record { state = o.offered.state; cost = o.offered.cost; parent = w.by.state.cell } in
      let offers : Offers p w.by to = with_parent w.by o.by o.offered o.hops w.is o.stops_there in
      elim ((are_kept p sound x earlier r).offers w.by to w.member offers) [
        | inl h ↦ absurd (o.fresh (record {
          by = as_reached h.by;
          member = is_reached all h.by h.member;
          cell = h.is;
          no_more = h.most.is;
        }))
        | inr m ↦
            let left = cost_of (o.offered.state.cell ∷ o.cells) in
            record {
              to = to;
              offered = record { by = w.by; member = w.member; offers = offers; fresh = m.0 };
              most = Below-then
                  (Below-add_left (signed_of to.cost) (p.estimate to.state.cell) (signed_of left)
                  (never_exceeds g t p.estimate sound.consistent to.state.cell o.cells o.walk))
                  (Below-then (Below-same (sym (signed_sum to.cost left)))
                  (of_costs (record { is = o.no_more })));
            }
      ]

  -- at the goal the sum is the cost
  alone : (x : Taken) → x.state.cell ≡ t → sum_of p x ≡ signed_of x.cost
  alone x at =
      ap (λ (c : Cell). add_signed (signed_of x.cost) (p.estimate c)) at
      ∙ ap (λ (q : Signed). add_signed (signed_of x.cost) q) sound.consistent.nothing_at_goal
      ∙ add_signed-nothing_right (signed_of x.cost)

  -- the goal is taken at no more than a least walk costs
  taken_most : (taken : List Taken) (x : Taken) (cells : List Cell) → IsRun p taken → IsIn x taken
      → x.state.cell ≡ t → IsLeastWalk g s t cells → Most x.cost (cost_of (s ∷ cells))
  taken_most _ x cells begun m e least =
      each_of (λ u. Most u.cost (cost_of (s ∷ cells))) (begins p) []
      (Most-nothing (cost_of (s ∷ cells))) (λ u k. absurd (no_member u k)) x m
  taken_most _ x cells (further y earlier r n o) m e least =
      each_of (λ u. u.state.cell ≡ t → Most u.cost (cost_of (s ∷ cells))) y earlier
      (λ at.
      let w = offers_within earlier cells r n least in
      to_costs y.cost (cost_of (s ∷ cells)) (Below-then (Below-same (sym (alone y at)))
      (Below-then (record { is = o.least w.to w.offered }) w.most)))
      (λ u k at. absurd (n (record { by = u; member = k; is = at }))) x m e

  pub came : (taken : List Taken) (x : Taken) → IsRun p taken → IsIn x taken
      → CameTo g s t x.state.cell x.cost
  came taken x r m = came_to g s t (map as_reached taken) sound.free (are_reached p sound taken r)
      (as_reached x) (is_reached taken x m)

  pub goal_least : (taken : List Taken) (x : Taken) → IsRun p taken → IsIn x taken → x.state.cell ≡ t
      → IsLeastCost g s t x.cost
  goal_least taken x r m e =
      let c = came taken x r m in
      by_cost (least_cost g s t) (cost_is g s t sound.free) c.cells
      (record { legal = c.goes.legal; ends = c.goes.ends ∙ e }) c.goes.priced
    where
      by_cost : (o : Option Cost) → IsCostTo g s t o → (way : List Cell) → IsWalk g s t way
          → cost_of (s ∷ way) ≡ x.cost → IsLeastCost g s t x.cost
      by_cost None none way walk priced = absurd (none way walk)
      by_cost (Some cost) l way walk priced = record {
        cells = way;
        least = record {
          walk = walk;
          least = λ others o. (Most-then (Most-same priced)
              (Most-then (taken_most taken x l.cells r m e l.least)
              (record { is = l.least.least others o }))).is;
        };
        priced = priced;
      }

  pub none_left : (taken : List Taken) → IsRun p taken → ¬ HasCell taken t
      → ((x : Taken) → ¬ IsOffered p taken x) → NoWalk g s t
  none_left taken r n nothing = by_cost (least_cost g s t) (cost_is g s t sound.free)
    where
      by_cost : (o : Option Cost) → IsCostTo g s t o → NoWalk g s t
      by_cost None none = none
      by_cost (Some cost) l = let w = offers_within taken l.cells r n l.least in
          absurd (nothing w.to w.offered)

  abbrev number : Taken → ℕ
  number u = cell_number g.width u.state.cell

  abbrev AreFree : List Taken → Type 0
  AreFree all = (u : Taken) → IsIn u all → is_free g u.state.cell ≡ true

  all_free : (taken : List Taken) → IsRun p taken → AreFree taken
  all_free taken r u m =
      let c = came taken u r m in
      subst (λ (v : Cell). is_free g v ≡ true) c.goes.ends (last_free g s c.cells c.goes.legal)

  -- what is offered anew has a number that none of the taken has
  own_number : (x : Taken) (all : List Taken) → is_free g x.state.cell ≡ true → AreFree all
      → ¬ HasCell all x.state.cell → AllByRecursion (λ n. eqb (number x) n ≡ false) (map number all)
  own_number x [] free each n = tt
  own_number x (u ∷ all) free each n = (
    ne_eqb (number x) (number u) (λ e. n (record {
      by = u;
      member = here all;
      is = sym (one_cell g.width x.state.cell u.state.cell (free_inside g x.state.cell free).0
          (free_inside g u.state.cell (each u (here all))).0 e);
    })),
    own_number x all free (λ v m. each v (there u all m))
        (λ h. n (record { by = h.by; member = there u all h.member; is = h.is })),
  )

  apart : (taken : List Taken) → AreFree taken → IsRun p taken → IsDistinct eqb (map number taken)
  unfolding IsDistinct
  apart _ free begun = (tt, tt)
  apart _ free (further x earlier r n o) = (
    own_number x earlier (free x (here earlier)) (λ u m. free u (there x earlier m)) o.offered.fresh,
    apart earlier (λ u m. free u (there x earlier m)) r,
  )

  below : (all : List Taken) → AreFree all → (q : ℕ) → list_any (eqb q) (map number all) ≡ true
      → q < g.height * g.width
  below [] free q h = absurd (cc)
  below (x ∷ all) free q h =
      let first = free_below g x.state.cell (free x (here all)) in
      grind (arith, nat_tests, common_steps, below all (λ u m. free u (there x all m)) q)

  pub few : (taken : List Taken) → IsRun p taken → length taken ≤ g.height * g.width
  few taken r =
      let each = all_free taken r in
      subst (λ (n : ℕ). n ≤ g.height * g.width) (length-map taken number)
      (length-le_from_distinct_below (map number taken) (g.height * g.width) (apart taken each r)
      (below taken each))
