-- The parts of a space stay in order.
use Rattle.std.proofs.Common.{◌≡◌, ℕ, suc, ◌≤◌, length, List, [], ◌∷◌, ◌++◌, ap, sym, ◌∙◌, subst, true, arith}
use Rattle.std.specs.Prelude.{Some, None, slice_get, slice_set}
use Rattle.grid_moves.specs.declared.Cell.{Cell}
use Rattle.grid_moves.specs.Grid.{cell_number}
use Rattle.best_first.specs.declared.index.Record.{Record}
use Rattle.best_first.specs.declared.node.Node.{Node}
use Rattle.best_first.specs.declared.state.State.{State}
use Rattle.best_first.specs.declared.state.Layout.{Layout}
use Rattle.best_first.specs.declared.state.Layout.TheVariants.{ByCell, ByArrival}
use Rattle.best_first.specs.Index.{entry_for, entry_in, records_for, AreBlank, AreReset, IsPut, AreParts}
use Rattle.best_first.specs.Node.{state_of}
use Rattle.best_first.specs.Space.{IsPlaced}
use Rattle.best_first.specs.State.{arrival_number, state_in, state_of_place, place_of}
use Rattle.best_first.specs.Table.{lookup, is_bettered}
use Rattle.best_first.proofs.Exact.{exact_blank, exact_added, exact_replaced, entry_found, few_nodes}
use Rattle.best_first.proofs.Offering.{in_cell}
use Rattle.best_first.proofs.States.{place-again}
use Rattle.best_first.proofs.Tables.{bettered_node}

-- heads that are 0 lead nowhere in either layout
pub blank_reset : (layout : Layout) (heads : List ℕ) → AreBlank heads → AreReset layout heads
blank_reset ByCell heads b = b
blank_reset ByArrival heads b = record {}

-- with no node
pub parts_blank : (layout : Layout) {width : ℕ} {nodes : List Node} {heads : List ℕ} {records : List Record}
    → AreReset layout heads → nodes ≡ [] → records ≡ [] → length heads ≤ 16777216
    → AreParts layout width nodes heads records
parts_blank layout b n r l = record { exact = rw (n, r) (exact_blank layout b); few_cells = l }

-- the state of a node whose place is that of a state
pub node_state : (layout : Layout) (width places : ℕ) (n : Node) (s : State) → width ≤ 4096
    → IsPlaced width places s.cell → n.place ≡ place_of s → state_of layout n ≡ state_in layout s
node_state layout width places n s narrow p e =
    ap (λ (q : _). state_in layout (state_of_place q)) e
    ∙ ap (λ (t : State). state_in layout t) (place-again s (let c = p.column in omega arith))

seen_cell : (layout : Layout) (width places : ℕ) (s : State) → IsPlaced width places s.cell
    → IsPlaced width places (state_in layout s).cell
seen_cell layout width places s p = subst (λ (c : Cell). IsPlaced width places c) (sym (in_cell layout s)) p

module _ {layout : Layout} {width : ℕ} {nodes : List Node} {heads : List ℕ} {records : List Record}
    (a : AreParts layout width nodes heads records) where
  -- with one node more
  pub parts_added : (n : Node) (s : State) {after : List Node} {later_heads : List ℕ}
      {later_records : List Record} {entry : ℕ} → width ≤ 4096 → IsPlaced width (length heads) s.cell
      → n.place ≡ place_of s → lookup layout nodes (state_in layout s) ≡ None → after ≡ nodes ++ n ∷ []
      → entry ≡ suc (length nodes)
      → IsPut layout heads later_heads records later_records (cell_number width s.cell)
      (arrival_number (state_in layout s).arrival) entry
      → length later_records ≡ records_for layout entry
      → AreParts layout width after later_heads later_records
  parts_added n s {after} {later_heads} {later_records} {entry} narrow p place new after_is entry_is put l =
      let state : state_of layout n ≡ state_in layout s =
      node_state layout width (length heads) n s narrow p place in
      let at_state : IsPut layout heads later_heads records later_records
      (cell_number width (state_of layout n).cell) (arrival_number (state_of layout n).arrival)
      (suc (length nodes)) = rw (← entry_is) (rw (state, in_cell layout s) put) in
      record {
        exact = rw after_is (exact_added a.exact n at_state
            (rw state (seen_cell layout width (length heads) s p)) (rw state new)
            (l ∙ ap (λ (k : ℕ). records_for layout k) entry_is));
        few_cells = (let e = put.as_many in let f = a.few_cells in omega arith);
      }

  -- with a node in the place of another of the same state
  pub parts_replaced : (id : ℕ) (n : Node) {after : List Node} → is_bettered nodes id n.key ≡ true
      → ((old : Node) → slice_get nodes id ≡ Some old → state_of layout old ≡ state_of layout n)
      → after ≡ slice_set nodes id n → AreParts layout width after heads records
  parts_replaced id n t same after_is =
      let b = bettered_node nodes id n.key t in
      record {
        exact = rw after_is (exact_replaced a.exact id n b.node_is (same b.node b.node_is));
        few_cells = a.few_cells;
      }

  -- there are no more records than nodes
  pub parts_fewer : length records ≤ length nodes
  parts_fewer = by_layout layout a.exact.each
    where
      by_layout : (l : Layout) → length records ≡ records_for l (length nodes) → length records ≤ length nodes
      by_layout ByCell e = omega arith
      by_layout ByArrival e = omega arith

  -- there are fewer than 2^28 nodes, by far
  pub parts_few : length nodes ≤ 150994944
  parts_few = let n = few_nodes a.exact in let f = a.few_cells in omega arith

  -- what the index has is what is looked up
  pub parts_found : (s : State) → IsPlaced width (length heads) s.cell
      → entry_in layout heads records (cell_number width s.cell) (arrival_number (state_in layout s).arrival)
      ≡ entry_for (lookup layout nodes (state_in layout s))
  parts_found s p =
      ap (λ (c : Cell). entry_in layout heads records (cell_number width c)
      (arrival_number (state_in layout s).arrival)) (sym (in_cell layout s))
      ∙ entry_found a.exact (state_in layout s) (seen_cell layout width (length heads) s p)
