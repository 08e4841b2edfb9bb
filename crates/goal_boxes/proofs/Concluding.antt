-- From what a boxed search has taken to its answer.
use Rattle.std.proofs.Common.{◌≡◌, ℕ, inl, List, refl, ap, sym, ◌∙◌, subst, false}
use Rattle.std.specs.Prelude.{Some, slice_get}
use Rattle.grid_moves.specs.declared.Cell.{Cell}
use Rattle.grid_moves.specs.Grid.{GridData}
use Rattle.grid_moves.specs.Move.{is_same, all_dirs}
use Rattle.search_run.specs.Run.{least_offer}
use Rattle.best_first.specs.declared.node.Node.{Node}
use Rattle.best_first.specs.declared.state.State.{State}
use Rattle.best_first.specs.declared.state.Layout.TheVariants.{ByCell}
use Rattle.best_first.specs.Mirror.{IsSearching}
use Rattle.best_first.specs.Progress as search
use Rattle.best_first.specs.Space.{SpaceData}
use Rattle.best_first.specs.Table.{Table}
use Rattle.best_first.specs.Trace.{node_cell}
use Rattle.best_first.specs.Ways.{Onward, IsAmong, with_all}
use Rattle.best_first.proofs.Mirrors.{some_node}
use Rattle.best_first.proofs.Ways.{offers_after}
use Rattle.plain_search.specs.Room.{IsReady}
use Rattle.plain_search.proofs.Posed.{IsAsked}
use Rattle.goal_boxes.specs.Box.{BoxTeller}
use Rattle.goal_boxes.specs.Offers.{ways_over, MayExpand, HasExpanded}
use Rattle.goal_boxes.specs.Progress.{HasTaken}
use Rattle.goal_boxes.specs.Rule.{boxed_rule, boxed_links}
use Rattle.goal_boxes.proofs.Offering.{may_expand, all_over, are_links, enough}

module _ {g : GridData} (b : BoxTeller) {s t : Cell} (asked : IsAsked g s t (boxed_links g b t)) {at : ℕ}
    {k : Table}
    {taken : List ℕ} (h : HasTaken g b s t at k taken) where
  -- what the offers of the last state ask for
  pub may_go_on : (space : SpaceData) → space.table ≡ k → IsReady g space → (n : Node)
      → slice_get space.table.nodes at ≡ Some n → MayExpand g b t at n space
  may_go_on space e ready n read =
      subst (λ (m : Node). MayExpand g b t at m space)
      (some_node h.searching.node n (sym h.searching.node_is ∙ ap (λ (l : Table). slice_get l.nodes at)
      (sym e)
      ∙ read))
      (may_expand b asked h.last h.earlier at h.searching space e ready.width ready.places)

  -- after the offers
  pub has_offered : (now later : Table) → now ≡ k
      → ((n : Node) → slice_get k.nodes at ≡ Some n → is_same (node_cell n) t ≡ false)
      → ((n : Node) → slice_get now.nodes at ≡ Some n → HasExpanded g b t at n now later)
      → search.HasOffered ByCell g.width t (boxed_links g b t) s at later taken
  has_offered now later same open_ended expanded =
      let node = h.searching.node in
      let best = least_offer (boxed_rule g b t) h.earlier in
      let cell : h.last.state.cell ≡ node_cell node = ap (λ (u : State). u.cell) (sym h.searching.state) in
      let ended : is_same h.last.state.cell t ≡ false =
      ap (λ (u : Cell). is_same u t) cell ∙ open_ended node h.searching.node_is in
      let ways : List Onward = ways_over g b t (node_cell node) all_dirs in
      let made = all_over b asked h.last h.earlier at all_dirs best k h.searching node refl in
      record {
        last = h.last;
        earlier = h.earlier;
        best = with_all h.last best ways;
        searching =
            subst (λ (l : Table). IsSearching ByCell g.width t (boxed_links g b t) s h.last h.earlier at
            (with_all h.last best ways) l) (sym (subst
            (λ (l : Table). (n : Node) → slice_get l.nodes at ≡ Some n → HasExpanded g b t at n l later)
            same expanded node h.searching.node_is)) made.0;
        open_ended = ended;
        all_made = offers_after g.width t (boxed_links g b t) h.last h.earlier ways ended
            (λ w m. are_links g b t (node_cell node) h.last.state (sym h.searching.state) all_dirs w m)
            (λ v c untaken l. inl (subst (λ (u : Cell). IsAmong (record { to = v; cost = c })
            (ways_over g b t u all_dirs)) cell (enough g b t h.last.state v c l)));
        numbered = h.numbered;
      }
