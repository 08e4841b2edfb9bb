-- From what a search has taken to its answer.
use Rattle.std.proofs.Common.{◌≡◌, ℕ, ◌⊎◌, List, [], ◌∷◌, refl, ap, sym, ◌∙◌, subst, true, false}
use Rattle.std.specs.Prelude.{Bool, not, Some, slice_get, OnOk, Ok, Err}
use Rattle.std.proofs.lemmas.Bool.{not-true, not-false}
use Rattle.std.specs.declared.result.Result.{Result}
use Rattle.grid_moves.specs.declared.Cell.{Cell}
use Rattle.grid_moves.specs.Grid.{GridData, is_free}
use Rattle.grid_moves.specs.Move.{is_same, all_dirs}
use Rattle.search_run.specs.Run.{least_offer}
use Rattle.best_first.specs.declared.node.Node.{Node}
use Rattle.best_first.specs.declared.state.State.{State}
use Rattle.best_first.specs.declared.state.Layout.TheVariants.{ByCell}
use Rattle.best_first.specs.Mirror.{IsSearching}
use Rattle.best_first.specs.Progress as search
use Rattle.best_first.specs.Rule.{Links}
use Rattle.best_first.specs.Space.{SpaceData}
use Rattle.best_first.specs.State.{start_at, state_number, state_of_place}
use Rattle.best_first.specs.Table.{Table, NoneOpen, begun}
use Rattle.best_first.specs.Trace.{node_cell}
use Rattle.best_first.specs.Ways.{Onward, IsAmong, with_all}
use Rattle.best_first.proofs.Mirrors.{some_node}
use Rattle.best_first.proofs.Offering.{same_best}
use Rattle.best_first.proofs.Progress.{has_begun, last_led}
use Rattle.best_first.proofs.Taking.{none_open}
use Rattle.best_first.proofs.Ways.{offers_after}
use Rattle.grid_moves.specs.Around.{IsAround}
use Rattle.grid_moves.proofs.Legal.{is_same-cell}
use Rattle.plain_search.specs.Offers.{less_offered, sides_of, ways_over, MayExpand, HasExpanded}
use Rattle.plain_search.specs.Answer.{IsExhausted}
use Rattle.plain_search.specs.Progress.{HasTaken}
use Rattle.plain_search.specs.Room.{IsReady}
use Rattle.plain_search.specs.Rule.{plain_rule, plain_links, is_led}
use Rattle.plain_search.proofs.Offering.{may_expand, all_over, are_links, enough}
use Rattle.plain_search.proofs.Moving.{node_free}
use Rattle.plain_search.proofs.Posed.{IsAsked, fit}

-- what holds of an answer with a value may be weakened
pub on_ok : {T E : Type 0} (result : Result T E) {P Q : Type 0} → OnOk result P → (P → Q) → OnOk result Q
on_ok (Ok v) p f = f p
on_ok (Err e) p f = tt

-- the cell of a node that was read differs from t or not: so does that of whatever node stands there
module _ (nodes : List Node) (at : ℕ) (r n : Node) (c t : Cell) {differs : Bool}
    (read : slice_get nodes at ≡ Some r)
    (is : c ≡ node_cell r) (given : differs ≡ not (is_same c t)) (there : slice_get nodes at ≡ Some n) where
  pub differs_there : differs ≡ true → is_same (node_cell n) t ≡ false
  differs_there e =
      let cell : node_cell n
      ≡ c = ap (λ (m : Node). node_cell m) (some_node n r (sym there ∙ read)) ∙ sym is in
      ap (λ (u : Cell). is_same u t) cell ∙ not-true (is_same c t) (sym given ∙ e)

  pub same_there : differs ≡ false → node_cell n ≡ t
  same_there e =
      let cell : node_cell n
      ≡ c = ap (λ (m : Node). node_cell m) (some_node n r (sym there ∙ read)) ∙ sym is in
      cell ∙ is_same-cell c t (not-false (is_same c t) (sym given ∙ e))

module _ {g : GridData} {s t : Cell} {link : Links} (asked : IsAsked g s t link) where
  -- at the start
  pub begins : {k : Table} {taken : List ℕ} → k ≡ begun t s → taken ≡ state_number g.width (start_at s) ∷ []
      → search.HasTaken ByCell g.width t link s 0 k taken
  begins e f = rw (e, f) (has_begun (fit asked) ByCell (asked.printed (start_at s) (start_at s)))

  -- the cell of the last state is free
  pub taken_free : {at : ℕ} {k : Table} {taken : List ℕ} → search.HasTaken ByCell g.width t link s at k taken
      → (n : Node) → slice_get k.nodes at ≡ Some n → is_free g (node_cell n) ≡ true
  taken_free h n read =
      ap (λ (m : Node). is_free g (node_cell m))
      (some_node n h.searching.node (sym read ∙ h.searching.node_is)) ∙ node_free asked h.searching

module _ {g : GridData} {s t : Cell} (asked : IsAsked g s t (plain_links g)) {at : ℕ} {k : Table}
    {taken : List ℕ}
    (h : HasTaken g s t at k taken) where
  -- what the offers of the last state ask for
  pub may_go_on : (space : SpaceData) → space.table ≡ k → IsReady g space → (n : Node)
      → slice_get space.table.nodes at ≡ Some n → MayExpand g t at n space
  may_go_on space e ready n read =
      subst (λ (m : Node). MayExpand g t at m space)
      (some_node h.searching.node n (sym h.searching.node_is ∙ ap (λ (l : Table). slice_get l.nodes at)
      (sym e)
      ∙ read))
      (may_expand asked h.last h.earlier at h.searching space e ready.width ready.places)

  -- after the offers
  pub has_offered : (now later : Table) → now ≡ k
      → ((n : Node) → slice_get k.nodes at ≡ Some n → is_same (node_cell n) t ≡ false)
      → ((n : Node) → slice_get now.nodes at ≡ Some n → HasExpanded g t at n now later)
      → search.HasOffered ByCell g.width t (plain_links g) s at later taken
  has_offered now later same open_ended expanded =
      let node = h.searching.node in
      let best = least_offer (plain_rule g t) h.earlier in
      let e = subst (λ (l : Table). (n : Node) → slice_get l.nodes at ≡ Some n → HasExpanded g t at n l later)
      same expanded node h.searching.node_is in
      let by = (state_of_place node.place).arrival in
      let cell : h.last.state.cell ≡ node_cell node = ap (λ (u : State). u.cell) (sym h.searching.state) in
      let ended : is_same h.last.state.cell t ≡ false =
      ap (λ (u : Cell). is_same u t) cell ∙ open_ended node h.searching.node_is in
      let ways : List Onward = ways_over (less_offered e.around (sides_of by)) (node_cell node) all_dirs in
      let made = all_over asked h.last h.earlier at e.around (sides_of by) all_dirs best k h.searching
      node refl
      e.is_around in
      let around : IsAround g h.last.state.cell e.around =
      subst (λ (u : Cell). IsAround g u e.around) (sym cell) e.is_around in
      let led : is_led h.last.parent.cell h.last.state.cell by ≡ true =
      ap (λ (u : Cell). is_led h.last.parent.cell u by) cell ∙ last_led h.searching in
      record {
        last = h.last;
        earlier = h.earlier;
        best = with_all h.last best ways;
        searching = subst (λ (l : Table). IsSearching ByCell g.width t (plain_links g) s h.last h.earlier at
            (with_all h.last best ways) l) (sym e.table) made.0;
        open_ended = ended;
        all_made = offers_after g.width t (plain_links g) h.last h.earlier ways ended
            (λ w m. are_links g e.around (sides_of by) (node_cell node) h.last.state (sym h.searching.state)
            e.is_around all_dirs w m)
            (λ v c untaken l. subst (λ (u : Cell). IsAmong (record { to = v; cost = c })
            (ways_over (less_offered e.around (sides_of by)) u all_dirs)
            ⊎ (least_offer (plain_rule g t) (h.last ∷ h.earlier) v ≡ best v)) cell
            (enough asked h.last h.earlier h.searching.run e.around around by led v c untaken l));
        numbered = h.numbered;
      }

-- where no node is open, the run is exhausted
pub has_stopped : (g : GridData) (s t : Cell) {at : ℕ} {k : Table} {taken : List ℕ}
    → search.HasOffered ByCell g.width t (plain_links g) s at k taken → NoneOpen k → IsExhausted g s t taken
has_stopped g s t o none =
    let run = o.last ∷ o.earlier in
    record {
      run = run;
      is_run = o.searching.run;
      no_goal = rw o.open_ended o.searching.no_goal;
      none_waits = none_open
          (same_best o.searching.mirrors (least_offer (plain_rule g t) run) o.all_made) none;
      numbered = o.numbered;
    }
