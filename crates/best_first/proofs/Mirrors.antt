-- A table that keeps a run goes on keeping it when a node is offered.
use Rattle.std.proofs.Common.{◌≡◌, ◌≢◌, ℕ, ◌<◌, ◌⊎◌, inl, inr, length, List, [], ◌∷◌, refl, ap, sym, ◌∙◌}
use Rattle.std.proofs.Common.{Bool, true, false, arith}
use Rattle.std.specs.Prelude.{Some, None, slice_get}
use Rattle.std.proofs.lemmas.Option.{same_Some}
use Rattle.std.proofs.lemmas.Bool.{or_right}
use Rattle.grid_moves.specs.declared.Cell.{Cell}
use Rattle.search_run.specs.Run.{Taken, Offer, IsIn, here, there, is_taken}
use Rattle.best_first.specs.declared.node.Node.{Node}
use Rattle.best_first.specs.declared.state.State.{State}
use Rattle.best_first.specs.declared.state.Layout.{Layout}
use Rattle.best_first.specs.State.{is_same_state, state_of_place}
use Rattle.best_first.specs.Rule.{Links, search_rule}
use Rattle.best_first.specs.Node.{state_of}
use Rattle.best_first.specs.Table.{Table, lookup}
use Rattle.best_first.specs.Mirror.{Offers, Keeps, IsInOrder, Mirrors}
use Rattle.best_first.proofs.States.{is_same_state-state, is_same_state-itself, same_or_not}
use Rattle.best_first.proofs.Lookup.{none_found, lookup-none}

pub some_node : (m n : Node) → Some m ≡ Some n → m ≡ n
some_node m n e = same_Some m n e

-- a table in which one slot was changed: the node there is v's now
pub record Changed (layout : Layout) (v : State) (id : ℕ) (n : Node) (k l : Table) : Type 0 where
  pub here : slice_get l.nodes id ≡ Some n
  pub others : (j : ℕ) → j ≢ id → slice_get l.nodes j ≡ slice_get k.nodes j
  pub was : (old : Node) → slice_get k.nodes id ≡ Some old → state_of layout old ≡ v
  pub only : (j : ℕ) (x : Node) → slice_get k.nodes j ≡ Some x → state_of layout x ≡ v → j ≡ id
  pub state : state_of layout n ≡ v
  pub open_here : slice_get l.open_at id ≡ Some true
  pub open_others : (j : ℕ) → j ≢ id → slice_get l.open_at j ≡ slice_get k.open_at j
  pub no_more : length l.open_at ≡ length l.nodes

module _ (width : ℕ) (goal : Cell) (link : Links) where
  -- what was taken is among the taken states
  pub in_taken : (run : List (Taken State)) (u : Taken State) → IsIn u run
      → is_taken (search_rule width goal link) run u.state ≡ true
  in_taken [] u m = elim m [ ]
  in_taken (x ∷ earlier) u (here e) = rw (is_same_state-itself x.state) refl
  in_taken (x ∷ earlier) u (there z e m) = grind (arith, or_right, in_taken earlier u m)

module _ {layout : Layout} {width : ℕ} {goal : Cell} {link : Links} where
  module _ {run : List (Taken State)} {best : Offers} {k l : Table} {v : State} {id : ℕ} {n : Node}
      (m : Mirrors layout width goal link run best k) (ch : Changed layout v id n k l)
      (untaken : is_taken (search_rule width goal link) run v ≡ false)
      (column : (state_of_place n.place).cell.x < width) where
    -- the slot is no taken state's
    not_here : (j : ℕ) (p : Node) → slice_get k.nodes j ≡ Some p
        → is_taken (search_rule width goal link) run (state_of layout p) ≡ true → j ≢ id
    not_here j p h y e = grind arith

    -- what a node keeps stays, as its parent's slot was not changed
    keeps_stays : (x : Node) (o : Offer State) → Keeps layout width goal link k.nodes x o
        → is_taken (search_rule width goal link) run o.from ≡ true → Keeps layout width goal link l.nodes x o
    keeps_stays x o h y = grind (arith, not_here)

    -- another state's node stands in another slot
    elsewhere : (s : State) → is_same_state v s ≡ false → (x : Node) → state_of layout x ≡ s
        → state_of layout x ≡ v → ⊥
    elsewhere s f x e h = grind (arith, is_same_state-itself)

    module _ (after : Offers) {o : Offer State} (keeps : Keeps layout width goal link l.nodes n o)
        (source : is_taken (search_rule width goal link) run o.from ≡ true)
        (led : link.led o.from (state_of_place n.place) ≡ true) (at_v : after v ≡ Some o)
        (at_others : (s : State) → is_same_state v s ≡ false → after s ≡ best s) where
      at_id : (j : ℕ) → (j ≡ id) ⊎ (j ≢ id)
      at_id j = grind arith

      here_in_order : IsInOrder layout width goal link run after l id n
      here_in_order = grind (arith, in_taken)

      in_order_at : (j : ℕ) (x : Node) → slice_get l.nodes j ≡ Some x → (j ≡ id) ⊎ (j ≢ id)
          → IsInOrder layout width goal link run after l j x
      in_order_at j x h (inl e) = grind (arith, some_node, here_in_order)
      in_order_at j x h (inr ne) =
          let was : slice_get k.nodes j ≡ Some x = sym (ch.others j ne) ∙ h in
          let old = m.in_order j x was in
          record {
            column = old.column;
            opened = ch.open_others j ne ∙ old.opened;
            offer = old.offer;
            keeps = keeps_stays x old.offer old.keeps old.source;
            led = old.led;
            source = old.source;
            best_is = λ z. elim (same_or_not (is_same_state v (state_of layout x))) [
              | inl s ↦ absurd (ne (ch.only j x was (sym (is_same_state-state v (state_of layout x) s))))
              | inr s ↦ at_others (state_of layout x) s ∙ old.best_is z
            ];
            taken_by = old.taken_by;
          }

      only_at : (i j : ℕ) (x y : Node) → slice_get l.nodes i ≡ Some x → slice_get l.nodes j ≡ Some y
          → state_of layout x ≡ state_of layout y → (i ≡ id) ⊎ (i ≢ id) → (j ≡ id) ⊎ (j ≢ id) → i ≡ j
      only_at i j x y h g e (inl a) (inl b) = a ∙ sym b
      only_at i j x y h g e (inl a) (inr b) = grind (arith, some_node)
      only_at i j x y h g e (inr a) (inl b) = grind (arith, some_node)
      only_at i j x y h g e (inr a) (inr b) = grind arith

      known_on : (s : State) → lookup layout l.nodes s ≡ None
          → (is_taken (search_rule width goal link) run s ≡ false) × (after s ≡ None)
      known_on s h = by_test (is_same_state v s) refl
        where
          no_node : is_same_state v s ≡ false → (j : ℕ) (x : Node) → slice_get k.nodes j ≡ Some x
              → state_of layout x ≡ s → (j ≡ id) ⊎ (j ≢ id) → ⊥
          no_node f j x g e (inl a) =
              elsewhere s f x e (ch.was x (sym (ap (λ (q : ℕ). slice_get k.nodes q) a) ∙ g))
          no_node f j x g e (inr a) = none_found layout l.nodes s h j x (ch.others j a ∙ g) e

          by_test : (b : Bool) → is_same_state v s ≡ b
              → (is_taken (search_rule width goal link) run s ≡ false) × (after s ≡ None)
          by_test true t = absurd (none_found layout l.nodes s h id n ch.here
              (ch.state ∙ is_same_state-state v s t))
          by_test false t =
              let before =
              m.known s (lookup-none layout k.nodes s (λ j x g e. no_node t j x g e (at_id j))) in
              (before.0, at_others s t ∙ before.1)

      -- the table keeps the run still, with the node's offer for its state
      pub mirrors_changed : Mirrors layout width goal link run after l
      mirrors_changed = record {
        in_order = λ j x h. in_order_at j x h (at_id j);
        only = λ i j x y h g e. only_at i j x y h g e (at_id i) (at_id j);
        known = known_on;
        no_more = ch.no_more;
      }
