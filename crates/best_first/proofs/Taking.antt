-- The next node that is popped is the run's next state, and where none is left no state waits.
use Rattle.std.proofs.Common.{◌≡◌, ◌≢◌, ℕ, ◌≤◌, ◌⊎◌, inl, inr, List, ◌∷◌, refl, ap, sym, ◌∙◌, subst}
use Rattle.std.proofs.Common.{Bool, true, false, ◌&&◌, ◌||◌, not, arith}
use Rattle.std.specs.Prelude.{Option, Some, None, slice_get, slice_set, nat_eq, nat_lt}
use Rattle.std.proofs.lemmas.Bool.Decides.{nat_tests}
use Rattle.std.proofs.lemmas.Grind.{common_steps}
use Rattle.std.proofs.lemmas.Option.{same_Some}
use Rattle.std.proofs.lemmas.Bool.{or_parts, or_right}
use Rattle.root2_cost.specs.declared.Cost.{Cost}
use Rattle.root2_cost.specs.Laws.{HasShortParts}
use Rattle.root2_cost.specs.Order.{is_less}
use Rattle.root2_cost.specs.Rank.{rank_of}
use Rattle.root2_cost.proofs.Less.{same_cost}
use Rattle.root2_cost.proofs.Ranking.{less_ranks}
use Rattle.grid_moves.specs.declared.Cell.{Cell}
use Rattle.search_run.specs.Run.{Taken, Offer, IsIn, here, there, is_taken, least_offer, sum_at, IsNext}
use Rattle.search_run.specs.Run.{NoneWaits, goes_before}
use Rattle.best_first.specs.declared.node.Node.{Node}
use Rattle.best_first.specs.declared.state.State.{State}
use Rattle.best_first.specs.declared.state.Layout.{Layout}
use Rattle.best_first.specs.State.{is_same_state, state_number}
use Rattle.best_first.specs.Rule.{Links, search_rule}
use Rattle.best_first.specs.Node.{state_of}
use Rattle.best_first.specs.Table.{Table, lookup, closed_at, IsFirstNode, NoneOpen}
use Rattle.best_first.specs.Mirror.{IsInOrder, Mirrors}
use Rattle.best_first.proofs.Lists.{get-set_same, get-set_other}
use Rattle.best_first.proofs.States.{is_same_state-state, is_same_state-itself, same_or_not, places_order}
use Rattle.best_first.proofs.Lookup.{lookup-found, none_found}
use Rattle.best_first.proofs.Mirrors.{some_node}

-- what does not go before by keys and places does not by sums and numbers
keys_order : (p q : Cost) (i j m n : ℕ) → HasShortParts p → HasShortParts q → (j ≤ i → n ≤ m)
    → (nat_lt (rank_of p) (rank_of q) || (nat_eq (rank_of p) (rank_of q) && nat_lt i j)) ≡ false
    → (is_less p q || (nat_eq p.a q.a && nat_eq p.b q.b && nat_lt m n)) ≡ false
keys_order p q i j m n s t order e = grind (arith, nat_tests, common_steps, or_parts, less_ranks, same_cost)

module _ {layout : Layout} {width : ℕ} {goal : Cell} {link : Links} {run : List (Taken State)} {k : Table}
    (m : Mirrors layout width goal link run (least_offer (search_rule width goal link) run) k) where
  -- a state that waits has an open node that keeps its offer
  record HasOpen (s : State) (o : Offer State) : Type 0 where
    id : ℕ
    node : Node
    node_is : slice_get k.nodes id ≡ Some node
    state : state_of layout node ≡ s
    offer : (m.in_order id node node_is).offer ≡ o
    is_open : slice_get k.open_at id ≡ Some true

  waiting_node : (s : State) (o : Offer State) → is_taken (search_rule width goal link) run s ≡ false
      → least_offer (search_rule width goal link) run s ≡ Some o → HasOpen s o
  waiting_node s o n h = by_lookup (lookup layout k.nodes s) refl
    where
      by_lookup : (i : Option ℕ) → lookup layout k.nodes s ≡ i → HasOpen s o
      by_lookup None e = absurd (let none = (m.known s e).1 in cc)
      by_lookup (Some id) e =
          let f = lookup-found layout k.nodes s id e in
          let order = m.in_order id f.node f.node_is in
          let untaken : is_taken (search_rule width goal link) run (state_of layout f.node) ≡ false =
          ap (λ (u : State). is_taken (search_rule width goal link) run u) f.state ∙ n in
          record {
            id = id;
            node = f.node;
            node_is = f.node_is;
            state = f.state;
            offer = same_Some order.offer o (sym (order.best_is untaken)
                ∙ ap (λ (u : State). least_offer (search_rule width goal link) run u) f.state ∙ h);
            is_open = order.opened ∙ rw untaken refl;
          }

  -- where no node is open no state waits
  pub none_open : NoneOpen k → NoneWaits (search_rule width goal link) run
  none_open none s n = by_offer (least_offer (search_rule width goal link) run s) refl
    where
      by_offer : (o : Option (Offer State)) → least_offer (search_rule width goal link) run s ≡ o → o ≡ None
      by_offer None h = refl
      by_offer (Some o) h = absurd (let w = waiting_node s o n h in none w.id w.is_open)

  module _ (id : ℕ) (first : IsFirstNode k id) where
    abbrev n : Node
    n = first.node

    abbrev order : IsInOrder layout width goal link run (least_offer (search_rule width goal link) run) k id n
    order = m.in_order id n first.node_is

    abbrev pub next : Taken State
    next = record { state = state_of layout n; cost = order.offer.cost; parent = order.offer.from }

    untaken : is_taken (search_rule width goal link) run (state_of layout n) ≡ false
    untaken = by_test (is_taken (search_rule width goal link) run (state_of layout n)) refl
      where
        flag : Option Bool → Bool
        flag None = true
        flag (Some b) = b

        by_test : (b : Bool) → is_taken (search_rule width goal link) run (state_of layout n) ≡ b
            → is_taken (search_rule width goal link) run (state_of layout n) ≡ false
        by_test false e = e
        by_test true e = absurd (let o : slice_get k.open_at id ≡ Some false = order.opened ∙ rw e refl in
            let s : true ≡ false = ap (λ (q : Option Bool). flag q) (sym first.is_open ∙ o) in cc)

    -- no open node's state goes before the next
    not_before : (i : ℕ) (x : Node) (h : slice_get k.nodes i ≡ Some x) → slice_get k.open_at i ≡ Some true
        → goes_before (search_rule width goal link) (state_of layout x) (m.in_order i x h).offer.cost
        (state_of layout n) order.offer.cost ≡ false
    not_before i x h o =
        let a = m.in_order i x h in
        let r = first.first i x o h in
        keys_order (sum_at (search_rule width goal link) (state_of layout x) a.offer.cost)
        (sum_at (search_rule width goal link) (state_of layout n) order.offer.cost) x.place.bits n.place.bits
        (state_number width (state_of layout x)) (state_number width (state_of layout n)) a.keeps.short
        order.keeps.short (places_order layout width n.place x.place order.column a.column)
        (ap (λ (b : ℕ). nat_lt b (rank_of (sum_at (search_rule width goal link) (state_of layout n)
        order.offer.cost)) || (nat_eq b (rank_of (sum_at (search_rule width goal link) (state_of layout n)
        order.offer.cost)) && nat_lt x.place.bits n.place.bits)) (sym a.keeps.key)
        ∙ ap (λ (b : ℕ). nat_lt x.key b || (nat_eq x.key b && nat_lt x.place.bits n.place.bits))
        (sym order.keeps.key) ∙ r)

    -- the node's state is next
    pub is_next : IsNext (search_rule width goal link) run next
    is_next = record {
      waits = untaken;
      offered = order.best_is untaken;
      first = λ s o w h.
          let f = waiting_node s o w h in
          subst (λ (c : Offer State). goes_before (search_rule width goal link) s c.cost (state_of layout n)
          order.offer.cost ≡ false) f.offer
          (subst (λ (u : State). goes_before (search_rule width goal link) u
          (m.in_order f.id f.node f.node_is).offer.cost (state_of layout n) order.offer.cost ≡ false) f.state
          (not_before f.id f.node f.node_is f.is_open));
    }

    at_id : (j : ℕ) → (j ≡ id) ⊎ (j ≢ id)
    at_id j = grind arith

    in_order_on : (i : ℕ) (x : Node) → slice_get k.nodes i ≡ Some x
        → IsInOrder layout width goal link (next ∷ run) (least_offer (search_rule width goal link) run)
        (closed_at id k) i x
    in_order_on i x h =
        let o = m.in_order i x h in
        record {
          column = o.column;
          opened = by_slot (at_id i);
          offer = o.offer;
          keeps = o.keeps;
          led = o.led;
          source = or_right (is_same_state (state_of layout n) o.offer.from)
              (is_taken (search_rule width goal link) run o.offer.from) o.source;
          best_is = λ z. o.best_is (or_parts (is_same_state (state_of layout n) (state_of layout x))
              (is_taken (search_rule width goal link) run (state_of layout x)) z).1;
          taken_by = taken_by;
        }
      where
        by_slot : (i ≡ id) ⊎ (i ≢ id) → slice_get (slice_set k.open_at id false) i
            ≡ Some (not (is_taken (search_rule width goal link) (next ∷ run) (state_of layout x)))
        by_slot (inl e) =
            let same : x ≡ n =
            some_node x n (sym h ∙ ap (λ (j : ℕ). slice_get k.nodes j) e ∙ first.node_is) in
            let yes : is_same_state (state_of layout n) (state_of layout x) ≡ true =
            ap (λ (y : Node). is_same_state (state_of layout n) (state_of layout y)) same
            ∙ is_same_state-itself (state_of layout n) in
            rw yes (ap (λ (j : ℕ). slice_get (slice_set k.open_at id false) j) e
            ∙ get-set_same k.open_at id true false first.is_open)
        by_slot (inr ne) =
            let no : is_same_state (state_of layout n) (state_of layout x) ≡ false
            = elim (same_or_not (is_same_state (state_of layout n) (state_of layout x))) [
              | inl s ↦ absurd (ne (sym (m.only id i n x first.node_is h
                  (is_same_state-state (state_of layout n) (state_of layout x) s))))
              | inr s ↦ s
            ] in
            rw no (get-set_other k.open_at i id false ne ∙ (m.in_order i x h).opened)

        taken_by : (u : Taken State) → IsIn u (next ∷ run) → u.state ≡ state_of layout x
            → (u.cost ≡ (m.in_order i x h).offer.cost) × (u.parent ≡ (m.in_order i x h).offer.from)
        taken_by u (here z) e =
            let z : is_taken (search_rule width goal link) run (state_of layout x) ≡ false =
            ap (λ (s : State). is_taken (search_rule width goal link) run s) (sym e) ∙ untaken in
            let one : order.offer ≡ (m.in_order i x h).offer
            = same_Some order.offer (m.in_order i x h).offer (sym (order.best_is untaken)
            ∙ ap (λ (s : State). least_offer (search_rule width goal link) run s) e
            ∙ (m.in_order i x h).best_is z) in
            (ap (λ (o : Offer State). o.cost) one, ap (λ (o : Offer State). o.from) one)
        taken_by u (there z w i') e = (m.in_order i x h).taken_by u i' e

    -- the table with that node closed keeps the run with the next state
    pub mirrors_on : Mirrors layout width goal link (next ∷ run)
        (least_offer (search_rule width goal link) run)
        (closed_at id k)
    mirrors_on = record {
      in_order = in_order_on;
      only = m.only;
      known = known_on;
      no_more = (let e = m.no_more in grind (arith, common_steps));
    }
      where
        known_on : (s : State) → lookup layout k.nodes s ≡ None
            → (is_taken (search_rule width goal link) (next ∷ run) s ≡ false)
            × (least_offer (search_rule width goal link) run s ≡ None)
        known_on s h =
            let p = m.known s h in (
              by_test (is_same_state (state_of layout n) s) refl p.0,
              p.1,
            )
          where
            by_test : (b : Bool) → is_same_state (state_of layout n) s ≡ b
                → is_taken (search_rule width goal link) run s ≡ false
                → (b || is_taken (search_rule width goal link) run s) ≡ false
            by_test true t z = absurd (none_found layout k.nodes s h id n first.node_is
                (is_same_state-state (state_of layout n) s t))
            by_test false t z = z
