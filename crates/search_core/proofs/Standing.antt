-- From the space of a search to what it answers, on a grid on which the query is served.
use Rattle.std.proofs.lemmas.Bool.Decides.{nat_tests}
use Rattle.std.proofs.lemmas.Grind.{common_steps}
use Rattle.std.proofs.Common.{◌≡◌, ℕ, ◌+◌, ◌-◌, ◌*◌, ◌<◌, ◌≤◌, refl, ap, sym, ◌∙◌, subst, false, List, []}
use Rattle.std.proofs.Common.{◌∷◌, ◌++◌, length, arith, mul-le-mul}
use Rattle.std.specs.Prelude.{Some, slice_get}
use Rattle.std.proofs.lemmas.Option.{same_Some}
use Rattle.root2_cost.specs.declared.Cost.{Cost}
use Rattle.root2_cost.specs.Rank.{rank_of}
use Rattle.root2_cost.proofs.Differences.{rank-add_costs}
use Rattle.grid_moves.specs.declared.Cell.{Cell}
use Rattle.grid_moves.specs.declared.Dir.{Dir}
use Rattle.grid_moves.specs.Grid.{GridData, IsGrid}
use Rattle.grid_moves.specs.Move.{is_same}
use Rattle.grid_moves.specs.Points.{estimate}
use Rattle.grid_moves.proofs.Legal.{free_inside}
use Rattle.pruning.specs.Allowed.{allowed_dirs, come_to}
use Rattle.search_run.specs.Run.{here, least_offer}
use Rattle.best_first.specs.declared.node.Node.{Node}
use Rattle.best_first.specs.declared.state.State.{State}
use Rattle.best_first.specs.declared.state.Layout.{Layout}
use Rattle.best_first.specs.Progress.{HasTaken, HasOffered}
use Rattle.best_first.specs.Space.{SpaceData, KeepsShape}
use Rattle.best_first.specs.State.{state_number, state_of_place, start_at}
use Rattle.best_first.specs.Table.{Table, begun, closed_at, IsFirstNode, NoneOpen}
use Rattle.best_first.specs.Trace.{HasBack, IsWayTo, node_cell}
use Rattle.best_first.specs.Ways.{with_all}
use Rattle.best_first.proofs.Answering.{found_back}
use Rattle.best_first.specs.Node.{state_of}
use Rattle.best_first.proofs.Offering.{in_cell}
use Rattle.best_first.proofs.Searching.{taken_key}
use Rattle.best_first.proofs.Progress.{has_begun, next_taken, exhausted, taken_fits, has_back, last_led}
use Rattle.search_core.specs.Jumps.{jump_links, jump_rule}
use Rattle.search_core.specs.Answer.{IsFound, IsExhausted}
use Rattle.search_core.specs.Jumping.{IsSpaceOf, last_at, jumped, IsAt, IsOffering, HasReached}
use Rattle.search_core.specs.Room.{HasPlaces}
use Rattle.search_core.specs.Serving.{IsServed}
use Rattle.search_core.specs.declared.jumping.Last.{Last}
use Rattle.search_core.proofs.Arrivals.{HasArrived, run_arrived, shown}
use Rattle.search_core.proofs.Links.{shown_kept, start_arrived}
use Rattle.search_core.proofs.Offers.{fit, ways_in, all_allowed, all_dirs_offered, all_offered}
use Rattle.search_core.proofs.Serving.{same_shape}

-- the next state
pub record HasNext (layout : Layout) (g : GridData) (s t : Cell) (id : ℕ) (node : Node) (k : Table)
    (taken : List ℕ) : Type 0 where
  pub has : HasTaken layout g.width t (jump_links layout g t) s id (closed_at id k)
      (taken ++ state_number g.width (state_of_place node.place) ∷ [])
  pub on : (node_cell node).x < g.width
  pub row : (node_cell node).y < g.height

module _ {layout : Layout} {Stands : GridData → Type 0} {s t : Cell} {g : GridData}
    (served : IsServed Stands s t g) where
  -- at the start
  pub reached_first : {old : SpaceData} (new : SpaceData) {w : ℕ} {before taken : List ℕ} → IsGrid g
      → old.layout ≡ layout
      → HasPlaces g old → w ≡ g.width → new.layout ≡ old.layout → new.places ≡ old.places → new.width ≡ w
      → new.table ≡ begun t s → before ≡ [] → taken ≡ before ++ state_number w (start_at s) ∷ []
      → HasReached layout g s t 0 new taken
  reached_first {old} new {w} {before} {taken} whole is_so places width kept as_many
      new_width table none numbers
      = record {
        of = record {
          whole = whole;
          layout_is = kept ∙ is_so;
          places = record { enough = subst (λ (n : ℕ). g.height * g.width ≤ n) (sym as_many) places.enough };
          width = new_width ∙ width;
        };
        has = subst (λ (k : Table). HasTaken layout g.width t (jump_links layout g t) s 0 k taken) (sym table)
            (subst (λ (ns : List ℕ). HasTaken layout g.width t (jump_links layout g t) s 0 (begun t s) ns)
            (sym first)
            (has_begun (fit layout g s t whole served.from served.to) layout (start_arrived layout s)));
      }
    where
      first : taken ≡ state_number g.width (start_at s) ∷ []
      first = numbers ∙ ap (λ (ns : List ℕ). ns ++ state_number w (start_at s) ∷ []) none
          ∙ ap (λ (n : ℕ). state_number n (start_at s) ∷ []) width

  module _ {at : ℕ} {space : SpaceData} {taken : List ℕ} (h : HasReached layout g s t at space taken) where
    whole : IsGrid g
    whole = h.of.whole

    -- its node
    module _ {n : Node} (read : slice_get space.table.nodes at ≡ Some n) where
      one_node : h.has.searching.node ≡ n
      one_node = same_Some _ _ (sym h.has.searching.node_is ∙ read)

      kept_is : h.has.last.state ≡ state_of layout n
      kept_is = sym h.has.searching.state ∙ ap (λ (m : Node). state_of layout m) one_node

      cell_is : h.has.last.state.cell ≡ node_cell n
      cell_is = ap (λ (u : State). u.cell) kept_is ∙ in_cell layout (state_of_place n.place)

      pub state_is : shown layout h.has.last ≡ state_of_place n.place
      state_is = shown_kept layout h.has.last.parent h.has.last.state (state_of_place n.place) kept_is
          (ap (λ (m : Node). (jump_links layout g t).led h.has.last.parent (state_of_place m.place))
          (sym one_node)
          ∙ last_led h.has.searching)

      key_is : n.key ≡ rank_of h.has.last.cost + rank_of (estimate (node_cell n) t)
      key_is =
          taken_key (fit layout g s t whole served.from served.to) h.has.searching at n read h.has.last
          (here h.has.earlier) kept_is
          ∙ rank-add_costs h.has.last.cost (estimate h.has.last.state.cell t)
          ∙ ap (λ (c : Cell). rank_of h.has.last.cost + rank_of (estimate c t)) cell_is

      -- its estimate is part of its key
      pub key_enough : rank_of (estimate (node_cell n) t) ≤ n.key
      key_enough = rw key_is (more (rank_of h.has.last.cost) (rank_of (estimate (node_cell n) t)))
        where
          more : (a b : ℕ) → b ≤ a + b
          more a b = omega arith

      ranked : (last_at t at n).rank ≡ rank_of h.has.last.cost
      ranked = ap (λ (k : ℕ). k - rank_of (estimate (node_cell n) t)) key_is
          ∙ less (rank_of h.has.last.cost) (rank_of (estimate (node_cell n) t))
        where
          less : (a b : ℕ) → (a + b) - b ≡ a
          less a b = omega arith

      first_at : IsAt layout g s t (last_at t at n) h.has.last h.has.earlier
          (least_offer (jump_rule layout g t) h.has.earlier) space.table
      first_at = record { searching = h.has.searching; state = state_is; ranked = ranked }

      -- at its offers, with room made
      pub offering_first : {mid : SpaceData} → KeepsShape space mid → mid.table ≡ space.table
          → IsOffering layout g s t (last_at t at n) mid
      offering_first shape table = record {
        of = same_shape h.of shape;
        latest = h.has.last;
        earlier = h.has.earlier;
        best = least_offer (jump_rule layout g t) h.has.earlier;
        is_at = grind (arith, nat_tests, common_steps, first_at);
      }

      -- the state's cell is free, and it can be come to so
      pub state_arrived : HasArrived g (state_of_place n.place)
      state_arrived = subst (λ (u : State). HasArrived g u) state_is
          (run_arrived layout g s t served.from (h.has.last ∷ h.has.earlier) h.has.searching.run h.has.last
          (here h.has.earlier))

      -- after all its offers
      pub has_offered : {k : Table} {dirs : List Dir}
          → dirs ≡ allowed_dirs g (state_of_place n.place).cell (come_to (state_of_place n.place).arrival)
          → k ≡ jumped layout g t (last_at t at n) dirs space.table → is_same (node_cell n) t ≡ false
          → HasOffered layout g.width t (jump_links layout g t) s at k taken
      has_offered {k} {dirs} allowed table open_ended =
          let all = all_allowed g (state_of_place n.place).cell
          (come_to (state_of_place n.place).arrival) dirs
          allowed in
          all_offered layout g s t (last_at t at n) whole served.from served.to h.has.last
          h.has.earlier dirs all k
          taken
          (subst (λ (l : Table). IsAt layout g s t (last_at t at n) h.has.last h.has.earlier
          (with_all h.has.last (least_offer (jump_rule layout g t) h.has.earlier)
          (ways_in layout g s t (last_at t at n) dirs)) l)
          (sym table) (all_dirs_offered layout g s t (last_at t at n) whole served.from served.to h.has.last
          h.has.earlier
          dirs all.each (least_offer (jump_rule layout g t) h.has.earlier) space.table first_at)) open_ended
          h.has.numbered

    -- in code the node is read once room was made
    module _ {mid : SpaceData} (shape : KeepsShape space mid) (table : mid.table ≡ space.table)
        {last : Last} (known : (n : Node) → slice_get mid.table.nodes at ≡ Some n → last ≡ last_at t at n)
      where
        last_is : last ≡ last_at t at h.has.searching.node
        last_is = known h.has.searching.node
            (ap (λ (k : Table). slice_get k.nodes at) table ∙ h.has.searching.node_is)

        pub offering_at : IsOffering layout g s t last mid
        offering_at = subst (λ (l : Last). IsOffering layout g s t l mid) (sym last_is)
            (offering_first h.has.searching.node_is shape table)

        pub arrived_at : HasArrived g last.state
        arrived_at = subst (λ (l : Last). HasArrived g l.state) (sym last_is)
            (state_arrived h.has.searching.node_is)

        pub offered_at : {dirs : List Dir} {k : Table}
            → dirs ≡ allowed_dirs g last.state.cell (come_to last.state.arrival)
            → k ≡ jumped layout g t last dirs mid.table
            → ((n : Node) → slice_get space.table.nodes at ≡ Some n → is_same (node_cell n) t ≡ false)
            → HasOffered layout g.width t (jump_links layout g t) s at k taken
        offered_at {dirs} allowed jumps open_ended =
            has_offered h.has.searching.node_is
            (allowed ∙ ap (λ (l : Last). allowed_dirs g l.state.cell (come_to l.state.arrival)) last_is)
            (jumps ∙ ap (λ (l : Last). jumped layout g t l dirs mid.table) last_is
            ∙ ap (λ (j : Table). jumped layout g t (last_at t at h.has.searching.node) dirs j) table)
            (open_ended h.has.searching.node h.has.searching.node_is)

  -- none waits
  pub none_waits : {at : ℕ} {k : Table} {taken : List ℕ} → IsGrid g
      → HasOffered layout g.width t (jump_links layout g t) s at k taken → NoneOpen k
      → IsExhausted layout g s t taken
  none_waits whole o none =
      exhausted (fit layout g s t whole served.from served.to) o none

  pub has_next : {at : ℕ} {k : Table} {taken : List ℕ} → IsGrid g
      → HasOffered layout g.width t (jump_links layout g t) s at k taken → {id : ℕ} {node : Node}
      → IsFirstNode k id → slice_get k.nodes id ≡ Some node → HasNext layout g s t id node k taken
  has_next whole o {id} {node} first read =
      let has = next_taken (fit layout g s t whole served.from served.to) o id node first read
      (state_number g.width (state_of_place node.place))
      (λ p led. ap (λ (u : State). state_number g.width u)
      (sym (shown_kept layout p (state_of layout node) (state_of_place node.place) refl led))) in
      let one : has.searching.node ≡ node = same_Some _ _ (sym has.searching.node_is ∙ read) in
      let cell : has.last.state.cell ≡ node_cell node =
      ap (λ (u : State). u.cell) (sym has.searching.state ∙ ap (λ (m : Node). state_of layout m) one)
      ∙ in_cell layout (state_of_place node.place) in
      let arrived = run_arrived layout g s t served.from (has.last ∷ has.earlier) has.searching.run has.last
      (here has.earlier) in
      let inside = free_inside g has.last.state.cell arrived.free in
      record {
        has = has;
        on = subst (λ (c : Cell). c.x < g.width) cell inside.0;
        row = subst (λ (c : Cell). c.y < g.height) cell inside.1;
      }

  pub reached_next : {id : ℕ} {node : Node} {mid new : SpaceData} {before taken : List ℕ}
      → IsSpaceOf layout g mid → KeepsShape mid new → HasNext layout g s t id node mid.table before
      → new.table ≡ closed_at id mid.table
      → taken ≡ before ++ state_number g.width (state_of_place node.place) ∷ []
      → HasReached layout g s t id new taken
  reached_next {id} of shape next table numbers = record {
    of = same_shape of shape;
    has = rw (table, numbers) next.has;
  }

  module _ {at : ℕ} {space : SpaceData} {taken : List ℕ} (h : HasReached layout g s t at space taken) where
    -- the way back from the last state
    pub leads_back : HasBack t space.table.nodes at
    leads_back = has_back (fit layout g s t h.of.whole served.from served.to) h.has

    -- where it is the goal's, it is the answer
    pub found_at : ((n : Node) → slice_get space.table.nodes at ≡ Some n → node_cell n ≡ t)
        → (points : List Cell) (cost : Cost) → IsWayTo t space.table.nodes at points cost
        → IsFound layout g s t points cost taken
    found_at at_goal points cost way =
        found_back (fit layout g s t h.of.whole served.from served.to) (λ cells. cells) h.has
        (λ n e. in_cell layout (state_of_place n.place) ∙ at_goal n e) points
        points cost way refl

    -- there are at most nine states for each of 2^24 cells
    pub few_taken : length taken ≤ 150994944
    few_taken =
        let fits = taken_fits (fit layout g s t h.of.whole served.from served.to) h.has in
        let cells : g.height * g.width ≤ 16777216 =
        (let a = h.of.whole.sides.narrow in let b = h.of.whole.sides.low in mul-le-mul b a) in
        omega arith
