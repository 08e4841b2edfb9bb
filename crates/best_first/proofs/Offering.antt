-- An offer keeps the run: with a new node, a lesser key, or no change.
use Rattle.std.proofs.Common.{◌≡◌, ◌≢◌, ℕ, ◌+◌, ◌<◌, ◌≤◌, inl, inr, length, List, [], ◌∷◌, ◌++◌, refl, ap}
use Rattle.std.proofs.Common.{sym, ◌∙◌, subst, Bool, true, false, arith}
use Rattle.std.specs.Prelude.{Option, Some, None, slice_get, nat_lt}
use Rattle.std.proofs.lemmas.Bool.Decides.{nat_tests}
use Rattle.std.proofs.lemmas.Option.{slice_get_within}
use Rattle.std.proofs.lemmas.Grind.{common_steps}
use Rattle.root2_cost.specs.declared.Cost.{Cost}
use Rattle.root2_cost.specs.Laws.{HasShortParts}
use Rattle.root2_cost.specs.Order.{is_less, IsLess}
use Rattle.root2_cost.specs.Rank.{rank_of}
use Rattle.root2_cost.specs.Sums.{add_costs}
use Rattle.root2_cost.proofs.Ranking.{less_ranks, ranks_less}
use Rattle.root2_cost.proofs.Sums.{IsLess-add_right, IsLess-cancel_right}
use Rattle.root2_cost.proofs.Differences.{rank-add_costs}
use Rattle.grid_moves.specs.declared.Cell.{Cell}
use Rattle.grid_moves.specs.Points.{estimate}
use Rattle.search_run.specs.Run.{Taken, Offer, is_taken, lesser, sum_at}
use Rattle.best_first.specs.declared.node.Node.{Node}
use Rattle.best_first.specs.declared.node.Offer.{Offer as Way}
use Rattle.best_first.specs.declared.state.State.{State}
use Rattle.best_first.specs.declared.state.Layout.{Layout}
use Rattle.best_first.specs.declared.state.Layout.TheVariants.{ByCell, ByArrival}
use Rattle.best_first.specs.State.{is_same_state, place_of, state_in, state_of_place}
use Rattle.best_first.specs.Rule.{Links, search_rule}
use Rattle.best_first.specs.Node.{state_of}
use Rattle.best_first.specs.Table.{Table, lookup, node_for, added, replaced, is_bettered, offered, offered_at}
use Rattle.best_first.specs.Mirror.{Offers, with_offer, Keeps, Mirrors}
use Rattle.open_list.proofs.Changes.{get-append_left, get_pushed, get_pushed_other}
use Rattle.best_first.proofs.Lists.{get-set_same, get-set_other}
use Rattle.best_first.proofs.States.{is_same_state-state, is_same_state-itself, same_or_not, place-again}
use Rattle.best_first.proofs.Lookup.{lookup-found, none_found}
use Rattle.best_first.proofs.Mirrors.{Changed, mirrors_changed, some_node}

-- a state is seen at its cell
pub in_cell : (layout : Layout) (s : State) → (state_in layout s).cell ≡ s.cell
in_cell ByCell s = refl
in_cell ByArrival s = refl

-- which of two sums with one estimate is less the ranks say
keys_tell : (p q e : Cost) → HasShortParts (add_costs p e) → HasShortParts (add_costs q e)
    → nat_lt (rank_of (add_costs p e)) (rank_of (add_costs q e)) ≡ is_less p q
keys_tell p q e s t = by_test (is_less p q) refl
  where
    lesser_key : (m n : ℕ) → m < n → nat_lt m n ≡ true
    lesser_key m n h = grind (arith, nat_tests)

    less_of : (m n : ℕ) → nat_lt m n ≡ true → m < n
    less_of m n h = grind (arith, nat_tests)

    by_key : (b : Bool) → nat_lt (rank_of (add_costs p e)) (rank_of (add_costs q e)) ≡ b → is_less p q ≡ false
        → b ≡ false
    by_key false h n = refl
    by_key true h n =
        let less : IsLess p q = IsLess-cancel_right e p q
        (ranks_less (add_costs p e) (add_costs q e) s t (less_of _ _ h)) in
        absurd (cc)

    by_test : (b : Bool) → is_less p q ≡ b → nat_lt (rank_of (add_costs p e)) (rank_of (add_costs q e)) ≡ b
    by_test true l = lesser_key _ _ (less_ranks (add_costs p e) (add_costs q e) s (IsLess-add_right e p q l))
    by_test false l = by_key (nat_lt (rank_of (add_costs p e)) (rank_of (add_costs q e))) refl l

-- the offer may be made: of a cell of the map, ranked by its cost, by the node of a taken state
pub record IsFitting (layout : Layout) (width : ℕ) (goal : Cell) (link : Links) (run : List (Taken State))
    (k : Table) (way : Way) (cost : Cost) (p : Node) : Type 0 where
  pub narrow : width ≤ 4096
  pub column : way.to.cell.x < width
  pub ranked : way.rank ≡ rank_of cost
  pub short : HasShortParts (sum_at (search_rule width goal link) (state_in layout way.to) cost)
  pub parent_is : slice_get k.nodes way.parent ≡ Some p
  pub parent_taken : is_taken (search_rule width goal link) run (state_of layout p) ≡ true

module _ {layout : Layout} {width : ℕ} {goal : Cell} {link : Links} {run : List (Taken State)} {best : Offers}
    {k : Table} (m : Mirrors layout width goal link run best k) where
  -- of the offers only those for states that wait count
  pub same_best : (after : Offers)
      → ((s : State) → is_taken (search_rule width goal link) run s ≡ false → best s ≡ after s)
      → Mirrors layout width goal link run after k
  same_best after same = record {
    in_order = λ id n h. let o = m.in_order id n h in record {
      column = o.column;
      opened = o.opened;
      offer = o.offer;
      keeps = o.keeps;
      led = o.led;
      source = o.source;
      best_is = λ z. sym (same (state_of layout n) z) ∙ o.best_is z;
      taken_by = o.taken_by;
    };
    only = m.only;
    known = λ s h. let p = m.known s h in (p.0, sym (same s p.0) ∙ p.1);
    no_more = m.no_more;
  }

  module _ {way : Way} {cost : Cost} {p : Node} (w : IsFitting layout width goal link run k way cost p) where
    abbrev pub to : State
    to = state_in layout way.to

    abbrev pub new : Node
    new = node_for goal way

    abbrev pub now : Offer State
    now = record { cost = cost; from = state_of layout p }

    place_again : state_of_place (place_of way.to) ≡ way.to
    place_again = place-again way.to (let a = w.column in let b = w.narrow in omega arith)

    pub new_state : state_of layout new ≡ to
    new_state = ap (λ (s : State). state_in layout s) place_again

    new_column : (state_of_place new.place).cell.x < width
    new_column = subst (λ (s : State). s.cell.x < width) (sym place_again) w.column

    pub new_key : new.key ≡ rank_of (sum_at (search_rule width goal link) to cost)
    new_key = ap (λ (r : ℕ). r + rank_of (estimate way.to.cell goal)) w.ranked
        ∙ ap (λ (c : Cell). rank_of cost + rank_of (estimate c goal)) (sym (in_cell layout way.to))
        ∙ sym (rank-add_costs cost (estimate to.cell goal))

    at_others : (s : State) → is_same_state to s ≡ false → with_offer best to now s ≡ best s
    at_others s n = rw n refl

    at_v : (o : Option (Offer State)) → best to ≡ o → with_offer best to now to ≡ lesser o (Some now)
    at_v o e = rw (is_same_state-itself to, e) refl

    new_keeps : (l : Table) → slice_get l.nodes way.parent ≡ Some p
        → Keeps layout width goal link l.nodes new now
    new_keeps l h = record {
      key = new_key ∙ ap (λ (s : State). rank_of (sum_at (search_rule width goal link) s cost))
          (sym new_state);
      short = subst (λ (s : State). HasShortParts (sum_at (search_rule width goal link) s cost))
          (sym new_state)
          w.short;
      parent = p;
      parent_is = h;
      from = refl;
    }

    changed_by_adding : lookup layout k.nodes to ≡ None
        → Changed layout to (length k.nodes) new k (added new k)
    changed_by_adding none = record {
      here = get_pushed k.nodes new;
      others = λ j ne. get_pushed_other k.nodes new j ne;
      was = λ old h. absurd (let b = slice_get_within k.nodes (length k.nodes) old h in omega arith);
      only = λ j x h e. absurd (none_found layout k.nodes to none j x h e);
      state = new_state;
      open_here =
          ap (λ (i : ℕ). slice_get (k.open_at ++ true ∷ []) i) (sym m.no_more) ∙ get_pushed k.open_at true;
      open_others = λ j ne. get_pushed_other k.open_at true j (λ e. ne (e ∙ m.no_more));
      no_more = let e = m.no_more in grind (arith, common_steps);
    }

    is_open : (id : ℕ) (n : Node) → slice_get k.nodes id ≡ Some n → state_of layout n ≡ to
        → is_taken (search_rule width goal link) run to ≡ false → slice_get k.open_at id ≡ Some true
    is_open id n h e z =
        let untaken : is_taken (search_rule width goal link) run (state_of layout n) ≡ false =
        ap (λ (s : State). is_taken (search_rule width goal link) run s) e ∙ z in
        (m.in_order id n h).opened ∙ rw untaken refl

    changed_by_replacing : (id : ℕ) (n : Node) → slice_get k.nodes id ≡ Some n → state_of layout n ≡ to
        → is_taken (search_rule width goal link) run to ≡ false
        → Changed layout to id new k (replaced id new k)
    changed_by_replacing id n h e z = record {
      here = get-set_same k.nodes id n new h;
      others = λ j ne. get-set_other k.nodes j id new ne;
      was = λ old s. ap (λ (x : Node). state_of layout x) (some_node old n (sym s ∙ h)) ∙ e;
      only = λ j x s c. m.only j id x n s h (c ∙ sym e);
      state = new_state;
      open_here = is_open id n h e z;
      open_others = λ j ne. refl;
      no_more = m.no_more ∙ grind (arith, common_steps);
    }

    bettered_is : (id : ℕ) (n : Node) (b : Bool) → slice_get k.nodes id ≡ Some n → nat_lt new.key n.key ≡ b
        → is_bettered k.nodes id new.key ≡ b
    bettered_is id n b h e = rw h e

    -- keys of the state's node tell which offer is less
    test_is : (id : ℕ) (n : Node) (h : slice_get k.nodes id ≡ Some n) → state_of layout n ≡ to
        → nat_lt new.key n.key ≡ is_less cost (m.in_order id n h).offer.cost
    test_is id n h e =
        let old = m.in_order id n h in
        let key : n.key ≡ rank_of (sum_at (search_rule width goal link) to old.offer.cost)
        = old.keeps.key ∙ ap (λ (s : State). rank_of (sum_at (search_rule width goal link) s old.offer.cost))
        e in
        let short_old : HasShortParts (sum_at (search_rule width goal link) to old.offer.cost)
        = subst (λ (s : State). HasShortParts (sum_at (search_rule width goal link) s old.offer.cost)) e
        old.keeps.short in
        ap (λ (i : ℕ). nat_lt i n.key) new_key
        ∙ ap (λ (i : ℕ). nat_lt (rank_of (sum_at (search_rule width goal link) to cost)) i) key
        ∙ keys_tell cost old.offer.cost (estimate to.cell goal) w.short short_old

    -- and of a state that waits it keeps the best one
    best_at : (id : ℕ) (n : Node) (h : slice_get k.nodes id ≡ Some n) → state_of layout n ≡ to
        → is_taken (search_rule width goal link) run to ≡ false
        → best to ≡ Some (m.in_order id n h).offer
    best_at id n h e z =
        ap (λ (s : State). best s) (sym e)
        ∙ (m.in_order id n h).best_is (ap (λ (s : State). is_taken (search_rule width goal link) run s) e ∙ z)

    greater : (a b : ℕ) → nat_lt a b ≡ true → b ≤ a → ⊥
    greater a b h l = grind (arith, nat_tests)

    -- the node that the state has has a greater key
    by_lesser_key : link.led (state_of layout p) (state_of_place new.place) ≡ true → (id : ℕ) (n : Node)
        → slice_get k.nodes id ≡ Some n → state_of layout n ≡ to
        → is_taken (search_rule width goal link) run to ≡ false → nat_lt new.key n.key ≡ true
        → Mirrors layout width goal link run (with_offer best to now) (replaced id new k)
    by_lesser_key is_led id n h e z t =
        let old = m.in_order id n h in
        let apart : way.parent ≢ id = λ i. let
        y : is_taken (search_rule width goal link) run (state_of layout p) ≡ false =
        ap (λ (s : State). is_taken (search_rule width goal link) run s)
        (ap (λ (x : Node). state_of layout x) (some_node p n
        (sym w.parent_is ∙ ap (λ (j : ℕ). slice_get k.nodes j) i ∙ h)) ∙ e) ∙ z in
        let x = w.parent_taken in
        absurd (cc) in
        let less : is_less cost old.offer.cost ≡ true = sym (test_is id n h e) ∙ t in
        mirrors_changed m (changed_by_replacing id n h e z) z new_column (with_offer best to now)
        (new_keeps (replaced id new k) (get-set_other k.nodes way.parent id new apart ∙ w.parent_is))
        w.parent_taken is_led (at_v (Some old.offer) (best_at id n h e z) ∙ rw less refl) at_others

    -- an offer keeps the run, where it betters no taken state
    pub offered_keeps : ((id : ℕ) (n : Node) → slice_get k.nodes id ≡ Some n → state_of layout n ≡ to
        → is_taken (search_rule width goal link) run to ≡ true → n.key ≤ new.key)
        → link.led (state_of layout p) (state_of_place new.place) ≡ true
        → Mirrors layout width goal link run (with_offer best to now) (offered layout goal way k)
    offered_keeps least is_led = by_lookup (lookup layout k.nodes to) refl
      where
        kept : (id : ℕ) (n : Node) → slice_get k.nodes id ≡ Some n → state_of layout n ≡ to
            → nat_lt new.key n.key ≡ false → Mirrors layout width goal link run (with_offer best to now) k
        kept id n h e t = same_best (with_offer best to now) (λ s z. elim (same_or_not (is_same_state to s)) [
          | inl y ↦ (let one : to ≡ s = is_same_state-state to s y in
              let less : is_less cost (m.in_order id n h).offer.cost ≡ false = sym (test_is id n h e) ∙ t in
              let at : best to ≡ Some (m.in_order id n h).offer = best_at id n h e
              (ap (λ (u : State). is_taken (search_rule width goal link) run u) one ∙ z) in
              subst (λ (u : State). best u ≡ with_offer best to now u) one
              (at ∙ sym (at_v (Some (m.in_order id n h).offer) at ∙ rw less refl)))
          | inr n ↦ sym (at_others s n)
        ])

        by_taken : (id : ℕ) (n : Node) → slice_get k.nodes id ≡ Some n → state_of layout n ≡ to
            → nat_lt new.key n.key ≡ true → (b : Bool) → is_taken (search_rule width goal link) run to ≡ b
            → Mirrors layout width goal link run (with_offer best to now) (replaced id new k)
        by_taken id n h e t true y = absurd (greater new.key n.key t (least id n h e y))
        by_taken id n h e t false z = by_lesser_key is_led id n h e z t

        by_key : (id : ℕ) (n : Node) → slice_get k.nodes id ≡ Some n → state_of layout n ≡ to → (b : Bool)
            → nat_lt new.key n.key ≡ b
            → Mirrors layout width goal link run (with_offer best to now) (offered_at (Some id) new k)
        by_key id n h e true t =
            rw (bettered_is id n true h t)
            (by_taken id n h e t (is_taken (search_rule width goal link) run to) refl)
        by_key id n h e false t = rw (bettered_is id n false h t) (kept id n h e t)

        by_lookup : (o : Option ℕ) → lookup layout k.nodes to ≡ o
            → Mirrors layout width goal link run (with_offer best to now) (offered_at o new k)
        by_lookup None e =
            let z = m.known to e in
            mirrors_changed m (changed_by_adding e) z.0 new_column (with_offer best to now)
            (new_keeps (added new k) (get-append_left k.nodes (new ∷ []) way.parent p w.parent_is))
            w.parent_taken is_led
            (at_v None z.1) at_others
        by_lookup (Some id) e =
            let f = lookup-found layout k.nodes to id e in
            by_key id f.node f.node_is f.state (nat_lt new.key f.node.key) refl
