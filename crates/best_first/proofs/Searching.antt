-- The search from one taken state to the next.
use Rattle.std.proofs.Common.{◌≡◌, ℕ, zero, suc, ◌+◌, ◌<◌, ◌≤◌, ◌^◌, ◌⊎◌, inl, inr, List, [], ◌∷◌, refl, ap}
use Rattle.std.proofs.Common.{sym, ◌∙◌, subst, Bool, true, false, ◌||◌, arith}
use Rattle.std.specs.Prelude.{Option, Some, None, slice_get, if◌then◌else◌}
use Rattle.std.proofs.lemmas.Bool.{or_right}
use Rattle.root2_cost.specs.declared.Cost.{Cost}
use Rattle.root2_cost.specs.Laws.{HasShortParts}
use Rattle.root2_cost.specs.Rank.{rank_of}
use Rattle.root2_cost.specs.Sums.{add_costs, no_cost}
use Rattle.root2_cost.proofs.AtMost.{IsAtMost-not_more}
use Rattle.root2_cost.proofs.Most.{Most}
use Rattle.root2_cost.proofs.Ranking.{ranks_less}
use Rattle.root2_cost.proofs.Differences.{rank-add_costs}
use Rattle.grid_moves.specs.declared.Cell.{Cell}
use Rattle.grid_moves.specs.Move.{is_same}
use Rattle.grid_moves.specs.Points.{estimate}
use Rattle.search_run.specs.Chain.{IsConsistent}
use Rattle.search_run.specs.Run.{Rule, Taken, IsIn, here, there, IsRun, is_taken, has_goal, lesser}
use Rattle.search_run.specs.Run.{least_offer, sum_at}
use Rattle.search_run.proofs.Leastness.{least_offer-from, taken_state, below_last, link_rises}
use Rattle.best_first.specs.declared.node.Node.{Node}
use Rattle.best_first.specs.declared.node.Offer.{Offer as Way}
use Rattle.best_first.specs.declared.state.State.{State}
use Rattle.best_first.specs.declared.state.Layout.{Layout}
use Rattle.best_first.specs.declared.state.Layout.TheVariants.{ByCell, ByArrival}
use Rattle.best_first.specs.State.{is_same_state, start_at, state_in, state_of_place, place_of}
use Rattle.best_first.specs.Rule.{Links, search_rule, LiesOn, IsPosed, IsSearch}
use Rattle.best_first.specs.Node.{state_of}
use Rattle.best_first.specs.Table.{Table, lookup, node_for, begun, offered, closed_at, IsFirstNode, NoneOpen}
use Rattle.best_first.specs.Table.{ClosedBelow}
use Rattle.best_first.specs.Mirror.{Offers, IsInOrder, Mirrors, IsSearching}
use Rattle.best_first.specs.Ways.{with_onward}
use Rattle.best_first.specs.Progress.{IsExhausted, numbers_of}
use Rattle.best_first.proofs.Links.{consistent, short_sum, short_link}
use Rattle.best_first.proofs.Mirrors.{some_node}
use Rattle.best_first.proofs.Offering.{IsFitting, in_cell, new_key, offered_keeps, same_best}
use Rattle.best_first.proofs.States.{is_same_state-itself, place-again}
use Rattle.best_first.proofs.Tables.{offered_slot}
use Rattle.best_first.proofs.Taking.{next, is_next, mirrors_on, none_open}

-- the greater cost has no lesser rank
most_ranks : (p q : Cost) → Most p q → HasShortParts p → HasShortParts q → rank_of p ≤ rank_of q
most_ranks p q m s t =
    by_order (rank_of p) (rank_of q) (λ h. IsAtMost-not_more p q m.is (ranks_less q p t s h))
  where
    by_order : (a b : ℕ) → (b < a → ⊥) → a ≤ b
    by_order a b n = elim (two a b) [ inl l ↦ l | inr l ↦ absurd (n l) ]
      where
        two : (a b : ℕ) → (a ≤ b) ⊎ (b < a)
        two a b = grind arith

module _ {width height : ℕ} {start goal : Cell} {link : Links}
    (posed : IsPosed width height start goal link) where
  -- each taken state lies on the map
  pub run_on : (run : List (Taken State)) → IsRun (search_rule width goal link) (start_at start) run
      → (u : Taken State) → IsIn u run → LiesOn width height u.state.cell
  run_on [] is u m = absurd is
  run_on (x ∷ []) is u (here z) = rw is posed.start_on
  run_on (x ∷ []) is u (there z e m) = elim m [ ]
  run_on (x ∷ y ∷ earlier) is u (here z) =
      let from = least_offer-from (search_rule width goal link) (y ∷ earlier) x.state
      (record { cost = x.cost; from = x.parent }) is.2.offered in
      posed.links.lands from.by.parent from.by.state x.state from.offered.step from.offered.linked
  run_on (x ∷ y ∷ earlier) is u (there z e m) = run_on (y ∷ earlier) is.0 u m

  -- and the start is one of them
  pub start_taken : (run : List (Taken State)) → IsRun (search_rule width goal link) (start_at start) run
      → is_taken (search_rule width goal link) run (start_at start) ≡ true
  start_taken [] is = absurd is
  start_taken (y ∷ []) is =
      let e : y.state ≡ start_at start = ap (λ (u : Taken State). u.state) is in
      let t : is_same_state y.state (start_at start) ≡ true =
      ap (λ (s : State). is_same_state s (start_at start)) e ∙ is_same_state-itself (start_at start) in
      rw t refl
  start_taken (y ∷ z ∷ rest) is = or_right (is_same_state y.state (start_at start))
      (is_taken (search_rule width goal link) (z ∷ rest) (start_at start)) (start_taken (z ∷ rest) is.0)

  pub fair : IsConsistent (search_rule width goal link)
  fair = consistent width height goal link posed.links

-- the offer is one over a link of the taken state, whose node has this number
pub record IsOver (layout : Layout) (link : Links) (x : Taken State) (at : ℕ) (o : Way)
    (c : Cost) : Type 0 where
  pub linked : link.step x.parent x.state (state_in layout o.to) ≡ Some c
  pub ranked : o.rank ≡ rank_of (add_costs x.cost c)
  pub parent : o.parent ≡ at
  pub led : link.led x.state o.to ≡ true

module _ {width height : ℕ} {start goal : Cell} {link : Links}
    (fit : IsSearch width height start goal link) where
  abbrev rule : Rule State
  rule = search_rule width goal link

  -- the sum of a cost of few moves to a cell of the map is short
  sum_short : (v : Cell) (c : Cost) → LiesOn width height v → c.a + c.b ≤ 2 ^ 29
      → HasShortParts (add_costs c (estimate v goal))
  sum_short v c on few =
      short_sum width height v goal c fit.posed.narrow fit.posed.low on fit.posed.goal_on few

  -- sums of taken states are short
  pub taken_short : (run : List (Taken State)) → IsRun rule (start_at start) run → (u : Taken State)
      → IsIn u run
      → HasShortParts (sum_at rule u.state u.cost)
  taken_short run is u m = sum_short u.state.cell u.cost (run_on fit.posed run is u m)
      (let f = fit.few run u is m in omega arith)

  module _ {layout : Layout} {x : Taken State} {earlier : List (Taken State)} {at : ℕ} {best : Offers}
      {k : Table}
      (i : IsSearching layout width goal link start x earlier at best k) where
    abbrev run : List (Taken State)
    run = x ∷ earlier

    -- the key of a taken state's node
    pub taken_key : (id : ℕ) (n : Node) → slice_get k.nodes id ≡ Some n → (u : Taken State) → IsIn u run
        → u.state ≡ state_of layout n → n.key ≡ rank_of (sum_at rule u.state u.cost)
    taken_key id n h u m e =
        let o = i.mirrors.in_order id n h in
        o.keeps.key
        ∙ ap (λ (c : Cost). rank_of (sum_at rule (state_of layout n) c)) (sym (o.taken_by u m e).0)
        ∙ ap (λ (s : State). rank_of (sum_at rule s u.cost)) (sym e)

    last_key : i.node.key ≡ rank_of (sum_at rule x.state x.cost)
    last_key = taken_key at i.node i.node_is x (here earlier) (sym i.state)

    last_short : HasShortParts (sum_at rule x.state x.cost)
    last_short = taken_short run i.run x (here earlier)

    -- a taken state's key is at most that of the last
    pub taken_below : (id : ℕ) (n : Node) → slice_get k.nodes id ≡ Some n
        → is_taken rule run (state_of layout n) ≡ true → n.key ≤ i.node.key
    taken_below id n h y =
        let u = taken_state rule (fair fit.posed) run (state_of layout n) y in
        rw (taken_key id n h u.0 u.1 u.2, last_key)
        (most_ranks (sum_at rule u.0.state u.0.cost) (sum_at rule x.state x.cost)
        (below_last rule (fair fit.posed) (start_at start) x earlier u.0 i.run u.1)
        (taken_short run i.run u.0 u.1) last_short)

    -- so no closed node has a greater key
    pub closed_below : ClosedBelow i.node.key k
    closed_below = record { flags = i.mirrors.no_more; below = below }
      where
        flag : Option Bool → Bool
        flag None = true
        flag (Some b) = b

        by_test : (id : ℕ) (n : Node) → slice_get k.nodes id ≡ Some n → slice_get k.open_at id ≡ Some false
            → (b : Bool) → is_taken rule run (state_of layout n) ≡ b
            → is_taken rule run (state_of layout n) ≡ true
        by_test id n h shut true e = e
        by_test id n h shut false e = absurd (let o : slice_get k.open_at id ≡ Some true =
            (i.mirrors.in_order id n h).opened ∙ rw e refl in
            let s : true ≡ false = ap (λ (q : Option Bool). flag q) (sym o ∙ shut) in cc)

        below : (id : ℕ) (n : Node) → slice_get k.nodes id ≡ Some n → slice_get k.open_at id ≡ Some false
            → n.key ≤ i.node.key
        below id n h shut =
            taken_below id n h (by_test id n h shut (is_taken rule run (state_of layout n)) refl)

    last_taken : is_taken rule run (state_of layout i.node) ≡ true
    last_taken = rw i.state (yes (is_taken rule earlier x.state))
      where
        yes : (b : Bool) → (is_same_state x.state x.state || b) ≡ true
        yes b = rw (is_same_state-itself x.state) refl

    module _ (o : Way) (c : Cost) (over : IsOver layout link x at o c) where
      abbrev to : State
      to = state_in layout o.to

      abbrev total : Cost
      total = add_costs x.cost c

      lands : LiesOn width height to.cell
      lands = fit.posed.links.lands x.parent x.state to c over.linked

      -- an offer over a link keeps the run
      fits : IsFitting layout width goal link run k o total i.node
      fits = record {
        narrow = fit.posed.narrow;
        column = (subst (λ (d : Cell). LiesOn width height d) (in_cell layout o.to) lands).0;
        ranked = over.ranked;
        short = sum_short to.cell total lands
            (let f = fit.few run x i.run (here earlier) in
            let b : c.a + c.b ≤ 4096 = rw (fit.posed.links.priced x.parent x.state to c over.linked)
            (short_link width height x.state.cell to.cell fit.posed.narrow fit.posed.low
            (run_on fit.posed run i.run x (here earlier)) lands) in
            omega arith);
        parent_is = rw over.parent i.node_is;
        parent_taken = last_taken;
      }

      -- an offer's key is at least that of the taken state
      pub key_rises : i.node.key ≤ (node_for goal o).key
      key_rises =
          subst (λ (a : ℕ). a ≤ (node_for goal o).key) (sym last_key)
          (subst (λ (b : ℕ). rank_of (sum_at rule x.state x.cost) ≤ b) (sym (new_key i.mirrors fits))
          (most_ranks (sum_at rule x.state x.cost) (sum_at rule to total)
          (link_rises rule (fair fit.posed) x.parent x.state to x.cost c over.linked) last_short fits.short))

      below_new : (id : ℕ) (n : Node) → slice_get k.nodes id ≡ Some n
          → is_taken rule run (state_of layout n) ≡ true → n.key ≤ (node_for goal o).key
      below_new id n h y = chained n.key i.node.key (node_for goal o).key (taken_below id n h y) key_rises
        where
          chained : (m n q : ℕ) → m ≤ n → n ≤ q → m ≤ q
          chained m n q a b = omega arith

      origin_taken : is_taken rule run (state_of layout i.origin) ≡ true
      origin_taken = rw i.origin_state (start_taken fit.posed run i.run)

      is_led : link.led (state_of layout i.node) (state_of_place (place_of o.to)) ≡ true
      is_led = ap (λ (s : State). link.led s (state_of_place (place_of o.to))) i.state
          ∙ ap (λ (s : State). link.led x.state s)
          (place-again o.to (let a = fits.column in let b = fit.posed.narrow in omega arith)) ∙ over.led

      -- which leaves the node of the taken state
      pub node_stays : slice_get (offered layout goal o k).nodes at ≡ Some i.node
      node_stays = offered_slot layout goal o k at i.node i.node_is key_rises

      -- one more offer
      pub one_more : IsSearching layout width goal link start x earlier at
          (with_onward x best (record { to = to; cost = c })) (offered layout goal o k)
      one_more = record {
        run = i.run;
        no_goal = i.no_goal;
        mirrors = subst (λ (s : State). Mirrors layout width goal link run (λ v.
            if is_same_state to v then lesser (best v) (Some (record { cost = total; from = s })) else best v)
            (offered layout goal o k)) i.state
            (offered_keeps i.mirrors fits (λ id n h e y. below_new id n h
            (ap (λ (s : State). is_taken rule run s) e ∙ y)) is_led);
        node = i.node;
        node_is = node_stays;
        state = i.state;
        origin = i.origin;
        origin_is = offered_slot layout goal o k 0 i.origin i.origin_is
            (below_new 0 i.origin i.origin_is origin_taken);
        origin_state = i.origin_state;
      }

    module _ (open_ended : is_same x.state.cell goal ≡ false)
        (after : (s : State) → is_taken rule run s ≡ false → best s ≡ least_offer rule run s) where
      none : has_goal rule run ≡ false
      none = rw open_ended i.no_goal

      offered_all : Mirrors layout width goal link run (least_offer rule run) k
      offered_all = same_best i.mirrors (least_offer rule run) after

      -- the next state is taken
      pub going_on : (id : ℕ) → IsFirstNode k id
          → (y : Taken State) × IsSearching layout width goal link start y run id (least_offer rule run)
          (closed_at id k)
      going_on id f = (
        next offered_all id f,
        record {
          run = (i.run, none, is_next offered_all id f);
          no_goal = none;
          mirrors = mirrors_on offered_all id f;
          node = f.node;
          node_is = f.node_is;
          state = refl;
          origin = i.origin;
          origin_is = i.origin_is;
          origin_state = i.origin_state;
        },
      )

      -- no state is left
      pub ending : NoneOpen k → IsExhausted width goal link start (numbers_of width link run)
      ending shut = record {
        run = run;
        is_run = i.run;
        no_goal = none;
        none_waits = none_open offered_all shut;
        numbered = refl;
      }

-- the start is taken first
abbrev pub at_start : Cell → Taken State
at_start start = record { state = start_at start; cost = no_cost; parent = start_at start }

module _ (layout : Layout) {width height : ℕ} {start goal : Cell} {link : Links}
    (fit : IsSearch width height start goal link) where
  abbrev first_node : Node
  first_node = node_for goal (record { rank = 0; parent = 0; to = start_at start })

  seen_start : (l : Layout) → state_in l (start_at start) ≡ start_at start
  seen_start ByCell = refl
  seen_start ByArrival = refl

  start_again : state_of_place first_node.place ≡ start_at start
  start_again = place-again (start_at start) (let a = fit.posed.start_on.0 in let b = fit.posed.narrow in
      omega arith)

  first_state : state_of layout first_node ≡ start_at start
  first_state = ap (λ (s : State). state_in layout s) start_again ∙ seen_start layout

  start_key : first_node.key ≡ rank_of (sum_at (rule fit) (start_at start) no_cost)
  start_key = sym (rank-add_costs no_cost (estimate start goal))

  first_taken : is_taken (rule fit) (at_start start ∷ []) (start_at start) ≡ true
  first_taken = rw (is_same_state-itself (start_at start)) refl

  is_first : (id : ℕ) (n : Node) → slice_get (first_node ∷ []) id ≡ Some n → (id ≡ 0) × (n ≡ first_node)
  is_first zero n h = (refl, some_node n first_node (sym h))
  is_first (suc id) n h = absurd (cc)

  start_order : IsInOrder layout width goal link (at_start start ∷ []) (least_offer (rule fit) [])
      (begun goal start) 0
      first_node
  start_order = record {
    column = subst (λ (s : State). s.cell.x < width) (sym start_again) fit.posed.start_on.0;
    opened = rw first_state (rw first_taken refl);
    offer = record { cost = no_cost; from = start_at start };
    keeps = record {
      key = start_key ∙ ap (λ (s : State). rank_of (sum_at (rule fit) s no_cost)) (sym first_state);
      short = subst (λ (s : State). HasShortParts (sum_at (rule fit) s no_cost)) (sym first_state)
          (sum_short fit start no_cost fit.posed.start_on (omega arith));
      parent = first_node;
      parent_is = refl;
      from = first_state;
    };
    led = ap (λ (s : State). link.led (start_at start) s) start_again ∙ fit.posed.links.starts start;
    source = first_taken;
    best_is =
        λ z. absurd (let y : is_taken (rule fit) (at_start start ∷ []) (state_of layout first_node) ≡ true =
        ap (λ (s : State). is_taken (rule fit) (at_start start ∷ []) s) first_state ∙ first_taken in cc);
    taken_by = taken_by;
  }
    where
      taken_by : (u : Taken State) → IsIn u (at_start start ∷ []) → u.state ≡ state_of layout first_node
          → (u.cost ≡ no_cost) × (u.parent ≡ start_at start)
      taken_by u (here z) e = (refl, refl)
      taken_by u (there z w m) e = elim m [ ]

  pub started : IsSearching layout width goal link start (at_start start) [] 0
      (least_offer (rule fit) []) (begun goal start)
  started = record {
    run = refl;
    no_goal = refl;
    mirrors = record {
      in_order = λ id n h. let f = is_first id n h in rw (f.0, f.1) start_order;
      only = λ a b m n h g e. (is_first a m h).0 ∙ sym (is_first b n g).0;
      known = λ s h. (by_test s (is_same_state (start_at start) s) refl h, refl);
      no_more = refl;
    };
    node = first_node;
    node_is = refl;
    state = first_state;
    origin = first_node;
    origin_is = refl;
    origin_state = first_state;
  }
    where
      by_test : (s : State) (b : Bool) → is_same_state (start_at start) s ≡ b
          → lookup layout (first_node ∷ []) s ≡ None → is_taken (rule fit) (at_start start ∷ []) s ≡ false
      by_test s false t h = rw t refl
      by_test s true t h = absurd (
          let y : is_same_state (state_of layout first_node) s ≡ true =
          ap (λ (u : State). is_same_state u s) first_state ∙ t in
          let f : lookup layout (first_node ∷ []) s ≡ Some 0 = rw y refl in cc)
