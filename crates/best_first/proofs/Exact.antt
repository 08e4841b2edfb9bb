-- An exact index leads to what is looked up, and stays exact.
use Rattle.std.proofs.lemmas.Bool.Decides.{nat_tests}
use Rattle.std.proofs.Common.{◌≡◌, ℕ, zero, suc, ◌+◌, ◌*◌, ◌<◌, ◌≤◌, ◌⊎◌, inl, inr, length, List, [], ◌∷◌}
use Rattle.std.proofs.Common.{◌++◌, Bool, true, false, refl, ap, sym, ◌∙◌, subst, arith}
use Rattle.std.specs.Prelude.{Option, Some, None, nat_lt, if◌then◌else◌, slice_get, slice_set, slice_index_or}
use Rattle.std.proofs.lemmas.Grind.{common_steps}
use Rattle.grid_moves.specs.Grid.{cell_number}
use Rattle.grid_moves.proofs.Places.{one_cell}
use Rattle.best_first.specs.declared.index.Record.{Record}
use Rattle.best_first.specs.declared.node.Node.{Node}
use Rattle.best_first.specs.declared.state.State.{State}
use Rattle.best_first.specs.declared.state.Layout.{Layout}
use Rattle.best_first.specs.declared.state.Layout.TheVariants.{ByCell, ByArrival}
use Rattle.best_first.specs.Index.{entry_for, entry_in, records_for, AreBlank, AreReset, IsNodeAt}
use Rattle.best_first.specs.Index.{IsExact, IsPut}
use Rattle.best_first.specs.Node.{state_of}
use Rattle.best_first.specs.Space.{IsPlaced}
use Rattle.best_first.specs.State.{arrival_number, state_number}
use Rattle.best_first.specs.Table.{lookup}
use Rattle.std.proofs.lemmas.List.{length-append, length-set}
use Rattle.open_list.proofs.Changes.{get_pushed, get-append_left}
use Rattle.best_first.proofs.Lists.{got-added, get-set_same, get-set_other, got-set}
use Rattle.best_first.proofs.Lookup.{lookup-found, none_found}
use Rattle.best_first.proofs.Mirrors.{some_node}
use Rattle.best_first.proofs.Numbers.{at_most}
use Rattle.best_first.proofs.Records.{head-is, read_past}
use Rattle.best_first.proofs.States.{one_arrival, same_state, arrival_small}

-- where no cell has a head nothing is found
blank_head : (heads : List ℕ) → AreBlank heads → (c : ℕ) → slice_index_or heads c 0 ≡ 0
blank_head heads b c = by_get (slice_get heads c) refl
  where
    by_value : (v : ℕ) → slice_get heads c ≡ Some v → slice_index_or heads c 0 ≡ 0
    by_value zero g = head-is heads c 0 g
    by_value (suc r) g = absurd (b c r g)

    by_get : (o : Option ℕ) → slice_get heads c ≡ o → slice_index_or heads c 0 ≡ 0
    by_get o h1 = grind (arith, nat_tests, common_steps, read_past, by_value)

-- where there are no records nothing is found
no_entry : (heads : List ℕ) (c a : ℕ) → entry_in ByArrival heads [] c a ≡ 0
no_entry heads c a = by_test (nat_lt a 9)
  where
    by_test : (b : Bool) → (if b then zero else zero) ≡ zero
    by_test true = refl
    by_test false = refl

-- the index of no nodes
pub exact_blank : (layout : Layout) {width : ℕ} {heads : List ℕ} → AreReset layout heads
    → IsExact layout width [] heads []
exact_blank ByCell {width} {heads} b = grind (arith, nat_tests, common_steps, blank_head)
exact_blank ByArrival {width} {heads} b = record {
  heads_are = record {
    linked = record {
      lead = λ q r x y g h l e. absurd (cc);
      earlier = λ r y h. absurd (cc);
      own = λ r y h. absurd (cc);
    };
    heads_lead = λ c q x g e. absurd (cc);
  };
  each = refl;
  inside = λ id n h. absurd (cc);
  found = λ id n h. absurd (cc);
  nowhere_else = λ c a id h. absurd (let e = no_entry heads c a in omega arith);
}

-- states of one cell number and one arrival number are one
pub one_placed : (width places : ℕ) (s t : State) → IsPlaced width places s.cell
    → IsPlaced width places t.cell
    → cell_number width s.cell ≡ cell_number width t.cell → arrival_number s.arrival
    ≡ arrival_number t.arrival
    → s ≡ t
one_placed width places s t a b e f =
    same_state s t (one_cell width s.cell t.cell a.column b.column e) (one_arrival s.arrival t.arrival f)

module _ {layout : Layout} {width : ℕ} {nodes : List Node} {heads : List ℕ} {records : List Record}
    (x : IsExact layout width nodes heads records) where
  -- what the index has for a state is what is looked up
  pub entry_found : (s : State) → IsPlaced width (length heads) s.cell
      → entry_in layout heads records (cell_number width s.cell) (arrival_number s.arrival)
      ≡ entry_for (lookup layout nodes s)
  entry_found s p = by_lookup (lookup layout nodes s) refl
    where
      by_entry : lookup layout nodes s ≡ None → (e : ℕ)
          → entry_in layout heads records (cell_number width s.cell) (arrival_number s.arrival) ≡ e → e ≡ 0
      by_entry l zero h = refl
      by_entry l (suc id) h =
          let at = x.nowhere_else (cell_number width s.cell) (arrival_number s.arrival) id h in
          let one : state_of layout at.node ≡ s = one_placed width (length heads) (state_of layout at.node) s
          (x.inside id at.node at.node_is) p at.cell_is at.arrival_is in
          absurd (none_found layout nodes s l id at.node at.node_is one)

      by_lookup : (o : Option ℕ) → lookup layout nodes s ≡ o
          → entry_in layout heads records (cell_number width s.cell) (arrival_number s.arrival) ≡ entry_for o
      by_lookup None l = by_entry l _ refl
      by_lookup (Some id) l =
          let f = lookup-found layout nodes s id l in
          ap (λ (t : State). entry_in layout heads records (cell_number width t.cell)
          (arrival_number t.arrival))
          (sym f.state) ∙ x.found id f.node f.node_is

  -- with one node more, put at its state
  pub exact_added : (n : Node) {later_heads : List ℕ} {later_records : List Record}
      → IsPut layout heads later_heads records later_records (cell_number width (state_of layout n).cell)
      (arrival_number (state_of layout n).arrival) (suc (length nodes))
      → IsPlaced width (length heads) (state_of layout n).cell
      → lookup layout nodes (state_of layout n) ≡ None
      → length later_records ≡ records_for layout (suc (length nodes))
      → IsExact layout width (nodes ++ n ∷ []) later_heads later_records
  exact_added n {later_heads} {later_records} p placed none l = record {
    heads_are = p.heads_are;
    each = l ∙ ap (λ (k : ℕ). records_for layout k) (sym longer);
    inside = λ id m h. inside m (elim (got-added nodes n id m h) [
      | inl was ↦ x.inside id m was
      | inr here ↦ subst (λ (q : Node). IsPlaced width (length heads) (state_of layout q).cell)
          (sym here.1) placed
    ]);
    found = λ id m h. elim (got-added nodes n id m h) [
      | inl was ↦ (p.others (cell_number width (state_of layout m).cell)
          (arrival_number (state_of layout m).arrival)
          (λ e. none_found layout nodes (state_of layout n) none id m
          was (one_placed width (length heads) (state_of layout m) (state_of layout n)
          (x.inside id m was) placed
          e.0 e.1)) ∙ x.found id m was)
      | inr here ↦ (ap (λ (q : Node). entry_in layout later_heads later_records
          (cell_number width (state_of layout q).cell) (arrival_number (state_of layout q).arrival)) here.1
          ∙ p.here ∙ ap (λ (i : ℕ). suc i) (sym here.0))
    ];
    nowhere_else = λ c a id h. elsewhere c a id h (two c (cell_number width (state_of layout n).cell))
        (two a (arrival_number (state_of layout n).arrival));
  }
    where
      two : (i j : ℕ) → (i ≡ j) ⊎ (i ≡ j → ⊥)
      two i j = grind arith

      longer : length (nodes ++ n ∷ []) ≡ suc (length nodes)
      longer = omega (arith, length-append nodes (n ∷ []))

      inside : (m : Node) → IsPlaced width (length heads) (state_of layout m).cell
          → IsPlaced width (length later_heads) (state_of layout m).cell
      inside m q = subst (λ (k : ℕ). IsPlaced width k (state_of layout m).cell) (sym p.as_many) q

      lifted : (c a id : ℕ) → IsNodeAt layout width nodes c a id
          → IsNodeAt layout width (nodes ++ n ∷ []) c a id
      lifted c a id at = grind (arith, nat_tests, common_steps, get-append_left)

      last_at : IsNodeAt layout width (nodes ++ n ∷ []) (cell_number width (state_of layout n).cell)
          (arrival_number (state_of layout n).arrival) (length nodes)
      last_at = record { node = n; node_is = get_pushed nodes n; cell_is = refl; arrival_is = refl }

      number_is : (i j : ℕ) → suc i ≡ suc j → i ≡ j
      number_is i j e = omega arith

      elsewhere : (c a id : ℕ) → entry_in layout later_heads later_records c a ≡ suc id
          → (c ≡ cell_number width (state_of layout n).cell)
          ⊎ (c ≡ cell_number width (state_of layout n).cell → ⊥)
          → (a ≡ arrival_number (state_of layout n).arrival)
          ⊎ (a ≡ arrival_number (state_of layout n).arrival → ⊥)
          → IsNodeAt layout width (nodes ++ n ∷ []) c a id
      elsewhere c a id h (inl e) (inl f) =
          let entry : suc (length nodes) ≡ suc id = sym p.here ∙ (rw (e, f) at h) in
          rw (e, f, ← number_is (length nodes) id entry) last_at
      elsewhere c a id h (inl e) (inr g) =
          lifted c a id (x.nowhere_else c a id (sym (p.others c a (λ q. g q.1)) ∙ h))
      elsewhere c a id h (inr g) f =
          lifted c a id (x.nowhere_else c a id (sym (p.others c a (λ q. g q.0)) ∙ h))

  -- with another node of the same state in the place of one
  pub exact_replaced : (id : ℕ) {old : Node} (n : Node) → slice_get nodes id ≡ Some old
      → state_of layout old ≡ state_of layout n → IsExact layout width (slice_set nodes id n) heads records
  exact_replaced id {old} n h e = record {
    heads_are = x.heads_are;
    each = x.each ∙ ap (λ (k : ℕ). records_for layout k) (sym (length-set nodes id n));
    inside = λ j m g. grind (arith, nat_tests, common_steps, got-set);
    found = λ j m g. elim (got-set nodes j id m n g) [
      | inl was ↦ x.found j m was.1
      | inr here ↦ (ap (λ (s : State). entry_in layout heads records (cell_number width s.cell)
          (arrival_number s.arrival)) (sym (same j m here)) ∙ x.found id old h
          ∙ ap (λ (i : ℕ). suc i) (sym here.0))
    ];
    nowhere_else = λ c a j g. kept c a j (x.nowhere_else c a j g) (two j);
  }
    where
      two : (j : ℕ) → (j ≡ id) ⊎ (j ≡ id → ⊥)
      two j = grind arith

      same : (j : ℕ) (m : Node) → (j ≡ id) × (m ≡ n) → state_of layout old ≡ state_of layout m
      same j m q = e ∙ ap (λ (y : Node). state_of layout y) (sym q.1)

      kept : (c a j : ℕ) → IsNodeAt layout width nodes c a j → (j ≡ id) ⊎ (j ≡ id → ⊥)
          → IsNodeAt layout width (slice_set nodes id n) c a j
      kept c a j h1 h2 = grind (arith, nat_tests, common_steps, some_node, get-set_same, get-set_other)

  -- each node's state has a number of its own
  pub own_number : (i j : ℕ) (m n : Node) → slice_get nodes i ≡ Some m → slice_get nodes j ≡ Some n
      → state_number width (state_of layout m) ≡ state_number width (state_of layout n) → i ≡ j
  own_number i j m n h g e =
      let p = parts (cell_number width (state_of layout m).cell) (cell_number width (state_of layout n).cell)
      (arrival_number (state_of layout m).arrival) (arrival_number (state_of layout n).arrival)
      (arrival_small (state_of layout m).arrival) (arrival_small (state_of layout n).arrival) e in
      number_is i j (sym (x.found i m h)
      ∙ ap (λ (c : ℕ). entry_in layout heads records c (arrival_number (state_of layout m).arrival)) p.0
      ∙ ap (λ (a : ℕ). entry_in layout heads records (cell_number width (state_of layout n).cell) a) p.1
      ∙ x.found j n g)
    where
      number_is : (i j : ℕ) → suc i ≡ suc j → i ≡ j
      number_is i j e = omega arith

      parts : (m n i j : ℕ) → i < 9 → j < 9 → m * 9 + i ≡ n * 9 + j → (m ≡ n) × (i ≡ j)
      parts m n i j h k e = (omega arith, omega arith)

  pub number_below : (i : ℕ) (n : Node) → slice_get nodes i ≡ Some n
      → state_number width (state_of layout n) < length heads * 9
  number_below i n h = grind (arith, nat_tests, common_steps, arrival_small)

  -- so there are at most nine nodes for each place
  pub few_nodes : length nodes ≤ length heads * 9
  few_nodes = at_most (λ (n : Node). state_number width (state_of layout n)) nodes (length heads * 9)
      own_number
      number_below
