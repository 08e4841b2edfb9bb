-- The parents of the nodes lead back along the run's way.
use Rattle.std.proofs.lemmas.Grind.{common_steps}
use Rattle.std.proofs.Common.{◌≡◌, ◌≢◌, ℕ, ◌+◌, ◌-◌, ◌<◌, inl, inr, List, [], ◌∷◌, ◌++◌, ap, sym, ◌∙◌}
use Rattle.std.proofs.Common.{subst, true, false, arith, reverse, map}
use Rattle.std.proofs.lemmas.List.{reverse-append}
use Rattle.std.proofs.lemmas.Bool.Decides.{nat_tests}
use Rattle.std.specs.Prelude.{Some, slice_get}
use Rattle.root2_cost.specs.declared.Cost.{Cost}
use Rattle.root2_cost.specs.Rank.{rank_of}
use Rattle.root2_cost.specs.Sums.{add_costs, no_cost}
use Rattle.root2_cost.proofs.Differences.{rank-add_costs}
use Rattle.grid_moves.specs.declared.Cell.{Cell}
use Rattle.grid_moves.specs.Move.{is_same}
use Rattle.grid_moves.specs.Points.{estimate}
use Rattle.search_run.specs.Run.{Taken, IsIn, here, there, IsRun, is_taken, way_to}
use Rattle.search_run.proofs.Leastness.{least_offer-from}
use Rattle.best_first.specs.declared.node.Node.{Node}
use Rattle.best_first.specs.declared.state.State.{State}
use Rattle.best_first.specs.declared.state.Layout.{Layout}
use Rattle.best_first.specs.State.{is_same_state, start_at, state_of_place}
use Rattle.best_first.specs.Rule.{Links, search_rule, IsSearch}
use Rattle.best_first.specs.Node.{state_of}
use Rattle.best_first.specs.Table.{Table}
use Rattle.best_first.specs.Mirror.{Offers, IsSearching}
use Rattle.best_first.specs.Trace.{IsBack, stops, goes, node_cell, rank_left}
use Rattle.best_first.proofs.Mirrors.{some_node, in_taken}
use Rattle.best_first.proofs.Offering.{in_cell}
use Rattle.best_first.proofs.States.{is_same_state-state, is_same_state-itself, same_or_not}
use Rattle.best_first.proofs.Searching.{start_taken, taken_key}

-- the way back is one
pub back_is_one : (goal : Cell) (nodes : List Node) (id : ℕ) (a b : List Cell) (c d : Cost)
    → IsBack goal nodes id a c → IsBack goal nodes id b d → (a ≡ b) × (c ≡ d)
back_is_one goal nodes id a b c d (stops i m z g) (stops j n y h) = grind (arith, nat_tests, some_node)
back_is_one goal nodes id a b c d (stops i m z g) (goes j n p cells e ne h l f rest) = absurd (ne z)
back_is_one goal nodes id a b c d (goes j n p cells e ne h l f rest) (stops i m z g) = absurd (ne z)
back_is_one goal nodes id a b c d (goes i m p cells e ne h l f rest) (goes j n q others o nz g t u more) =
    let same : n ≡ m = some_node n m (sym g ∙ h) in
    let parent : q ≡ p = some_node q p (sym t ∙ ap (λ (x : Node). slice_get nodes x.parent) same ∙ l) in
    let tail = subst (λ (x : Node). IsBack goal nodes x.parent others o) same more in
    let both = back_is_one goal nodes m.parent cells others e o rest tail in (
      ap (λ (x : Node). node_cell x ∷ cells) (sym same)
          ∙ ap (λ (cs : List Cell). node_cell n ∷ cs) both.0,
      ap (λ (x : Cost). add_costs x (estimate (node_cell p) (node_cell m))) both.1
          ∙ ap (λ (x : Node). add_costs o (estimate (node_cell x) (node_cell m))) (sym parent)
          ∙ ap (λ (x : Node). add_costs o (estimate (node_cell q) (node_cell x))) (sym same),
    )

-- a last element comes first in the other order
reverse-last : (way : List State) (s : State)
    → reverse (map (λ (u : State). u.cell) (way ++ s ∷ []))
    ≡ s.cell ∷ reverse (map (λ (u : State). u.cell) way)
reverse-last way s = grind (arith, nat_tests, common_steps, reverse-append)

-- another cell is some moves away
apart_rank : (u v : Cell) → is_same u v ≡ false → 0 < rank_of (estimate u v)
apart_rank u v h = grind (arith, nat_tests)

module _ {layout : Layout} {width height : ℕ} {start goal : Cell} {link : Links}
    (fit : IsSearch width height start goal link) {last : Taken State} {before : List (Taken State)} {at : ℕ}
    {best : Offers} {k : Table} (i : IsSearching layout width goal link start last before at best k) where
  cell_is : (n : Node) (s : State) → state_of layout n ≡ s → node_cell n ≡ s.cell
  cell_is n s e = sym (in_cell layout (state_of_place n.place)) ∙ ap (λ (u : State). u.cell) e

  -- what is left of a key is the rank of the cost
  pub left_is : (id : ℕ) (n : Node) → slice_get k.nodes id ≡ Some n → (u : Taken State)
      → IsIn u (last ∷ before)
      → state_of layout n ≡ u.state → rank_left goal n ≡ rank_of u.cost
  left_is id n h u m e =
      let key : n.key ≡ rank_of u.cost + rank_of (estimate u.state.cell goal)
      = taken_key fit i id n h u m (sym e)
      ∙ rank-add_costs u.cost (estimate u.state.cell goal) in
      ap (λ (r : ℕ). r - rank_of (estimate (node_cell n) goal)) key
      ∙ ap (λ (c : Cell). (rank_of u.cost + rank_of (estimate u.state.cell goal)) - rank_of (estimate c goal))
      (cell_is n u.state e) ∙ less (rank_of u.cost) (rank_of (estimate u.state.cell goal))
    where
      less : (a b : ℕ) → (a + b) - b ≡ a
      less a b = omega arith

  -- the way of an earlier state stays the same
  way_stays : (x : Taken State) (earlier : List (Taken State)) (s : State)
      → is_taken (search_rule width goal link) earlier x.state ≡ false
      → is_taken (search_rule width goal link) earlier s ≡ true → is_same_state x.state s ≡ false
  way_stays x earlier s n y = elim (same_or_not (is_same_state x.state s)) [
    | inl t ↦ absurd (let no : is_taken (search_rule width goal link) earlier s ≡ false =
        ap (λ (u : State). is_taken (search_rule width goal link) earlier u)
        (sym (is_same_state-state x.state s t)) ∙ n in cc)
    | inr f ↦ f
  ]

  -- the cells of the way back from a state
  abbrev pub cells_to : List (Taken State) → State → List Cell
  cells_to run s = reverse (map (λ (u : State). u.cell) (way_to (search_rule width goal link) run s))

  pub back_of : (run : List (Taken State)) → IsRun (search_rule width goal link) (start_at start) run
      → ((u : Taken State) → IsIn u run → IsIn u (last ∷ before)) → (u : Taken State) → IsIn u run
      → (id : ℕ) (n : Node) → slice_get k.nodes id ≡ Some n → state_of layout n ≡ u.state
      → IsBack goal k.nodes id (cells_to run u.state) u.cost
  back_of [] is among u m id n h e = absurd is
  back_of (x ∷ []) is among u (there z w m) id n h e = elim m [ ]
  back_of (x ∷ []) is among u (here z) id n h e =
      let at_start : x.state ≡ start_at start = ap (λ (v : Taken State). v.state) is in
      let first : id ≡ 0 = grind (arith, nat_tests) in
      let cost : no_cost ≡ x.cost = sym (ap (λ (v : Taken State). v.cost) is) in
      rw (is_same_state-itself x.state)
      (subst (λ (c : Cost). IsBack goal k.nodes id (x.state.cell ∷ []) c) cost
      (subst (λ (c : Cell). IsBack goal k.nodes id (c ∷ []) no_cost) (cell_is n x.state e)
      (stops id n first h)))
  back_of (x ∷ y ∷ earlier) is among u (there z w m) id n h e =
      let other = way_stays x (y ∷ earlier) u.state is.2.waits (in_taken width goal link (y ∷ earlier) u m) in
      rw other (back_of (y ∷ earlier) is.0 (λ v j. among v (there x (y ∷ earlier) j)) u m id n h e)
  back_of (x ∷ y ∷ earlier) is among u (here z) id n h e =
      let order = i.mirrors.in_order id n h in
      let keeps = order.taken_by x (among x (here (y ∷ earlier))) (sym e) in
      let from = least_offer-from (search_rule width goal link) (y ∷ earlier) x.state
      (record { cost = x.cost; from = x.parent }) is.2.offered in
      let p : Node = order.keeps.parent in
      let at_p : state_of layout p ≡ from.by.state = order.keeps.from ∙ sym keeps.1 ∙ from.offered.source in
      let in_full = among from.by (there x (y ∷ earlier) from.member) in
      let rest = back_of (y ∷ earlier) is.0 (λ v j. among v (there x (y ∷ earlier) j)) from.by from.member
      n.parent p order.keeps.parent_is at_p in
      let moved = fit.posed.links.moves from.by.parent from.by.state x.state from.offered.step
      from.offered.linked in
      let priced = fit.posed.links.priced from.by.parent from.by.state x.state from.offered.step
      from.offered.linked in
      let cost : add_costs from.by.cost (estimate (node_cell p) (node_cell n)) ≡ x.cost =
      grind (arith, nat_tests, cell_is) in
      let less : rank_left goal p < rank_left goal n
      = falls (rank_left goal p) (rank_left goal n) (rank_of from.by.cost)
      (rank_of (estimate from.by.state.cell x.state.cell))
      (left_is n.parent p order.keeps.parent_is from.by in_full at_p)
      (left_is id n h x (among x (here (y ∷ earlier))) e ∙ ap rank_of from.offered.total
      ∙ rank-add_costs from.by.cost from.offered.step
      ∙ ap (λ (c : Cost). rank_of from.by.cost + rank_of c) priced)
      (apart_rank from.by.state.cell x.state.cell moved) in
      let not_start : id ≢ 0 = λ first.
      let same : n ≡ i.origin = grind (arith, nat_tests, some_node) in
      let at_start : x.state ≡ start_at start = grind (arith, nat_tests) in
      let no : is_taken (search_rule width goal link) (y ∷ earlier) (start_at start) ≡ false =
      grind (arith, nat_tests) in
      let yes = start_taken fit.posed (y ∷ earlier) is.0 in
      absurd (cc) in
      let at_parent : cells_to (y ∷ earlier) from.by.state ≡ cells_to (y ∷ earlier) x.parent =
      ap (λ (s : State). cells_to (y ∷ earlier) s) (sym from.offered.source) in
      let whole = goes id n p (cells_to (y ∷ earlier) from.by.state) from.by.cost not_start h
      order.keeps.parent_is less rest in
      rw (is_same_state-itself x.state)
      (subst (λ (cs : List Cell). IsBack goal k.nodes id cs x.cost)
      (sym (reverse-last (way_to (search_rule width goal link) (y ∷ earlier) x.parent) x.state))
      (subst (λ (cs : List Cell). IsBack goal k.nodes id (x.state.cell ∷ cs) x.cost) at_parent
      (subst (λ (c : Cell). IsBack goal k.nodes id (c ∷ cells_to (y ∷ earlier) from.by.state) x.cost)
      (cell_is n x.state e)
      (subst (λ (c : Cost). IsBack goal k.nodes id (node_cell n ∷ cells_to (y ∷ earlier) from.by.state) c)
      cost
      whole))))
    where
      falls : (m n a b : ℕ) → m ≡ a → n ≡ a + b → 0 < b → m < n
      falls m n a b e f l = omega arith
