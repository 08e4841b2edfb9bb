-- A state's offers of the moves toward the goal make the least offers those after it.
use Rattle.std.proofs.Common.{◌≡◌, ℕ, ◌*◌, ◌≤◌, List, [], ◌∷◌, refl, ap, sym, ◌∙◌, subst, Bool, true, false, ◌||◌}
use Rattle.std.specs.Prelude.{Option, Some, None}
use Rattle.root2_cost.specs.declared.Cost.{Cost}
use Rattle.grid_moves.specs.declared.Cell.{Cell}
use Rattle.grid_moves.specs.declared.Dir.{Dir}
use Rattle.grid_moves.specs.Grid.{GridData}
use Rattle.grid_moves.specs.Move.{all_dirs, dir_cost}
use Rattle.grid_moves.proofs.Legal.{legal_is}
use Rattle.search_run.specs.Run.{Taken}
use Rattle.best_first.specs.declared.node.Node.{Node}
use Rattle.best_first.specs.declared.state.State.{State}
use Rattle.best_first.specs.declared.state.Layout.TheVariants.{ByCell}
use Rattle.best_first.specs.Mirror.{Offers, IsSearching}
use Rattle.best_first.specs.Space.{SpaceData}
use Rattle.best_first.specs.State.{start_at}
use Rattle.best_first.specs.Table.{Table, offered}
use Rattle.best_first.specs.Trace.{node_cell, rank_left}
use Rattle.best_first.specs.Ways.{Onward, IsAmong, first, later, with_onward, with_all}
use Rattle.best_first.proofs.Searching.{closed_below}
use Rattle.best_first.proofs.Ways.{of_among}
use Rattle.plain_search.specs.Offers.{offer_to}
use Rattle.plain_search.proofs.Moving.{estimate_within, key_over, left_small, node_free, one_over}
use Rattle.plain_search.proofs.Posed.{IsAsked, fit, placed}
use Rattle.goal_boxes.specs.Box.{BoxTeller}
use Rattle.goal_boxes.specs.Offers.{toward, offered_over, all_offered, with_way, ways_over, MayExpand}
use Rattle.goal_boxes.specs.Rule.{leads_toward, is_toward_by, boxed_step, boxed_links}
use Rattle.goal_boxes.proofs.Moves.{toward_is, toward_linked, boxed_move, step_toward, leads_is}

module _ {g : GridData} (b : BoxTeller) {s t : Cell} (asked : IsAsked g s t (boxed_links g b t))
    (x : Taken State)
    (earlier : List (Taken State)) (at : ℕ) where
  abbrev Searching : Offers → Table → Type 0
  Searching best k = IsSearching ByCell g.width t (boxed_links g b t) s x earlier at best k

  -- what the offers of the taken state ask for
  pub may_expand : {best : Offers} {k : Table} (i : Searching best k) (space : SpaceData) → space.table ≡ k
      → space.width ≡ g.width → space.places ≡ g.height * g.width → MayExpand g b t at i.node space
  may_expand i space table width places = record {
    free = node_free asked i;
    keyed = estimate_within (fit asked) i;
    short = left_small (fit asked) i;
    closed = closed_below (fit asked) i;
    may = λ d v e.
        let w = toward_is g b t (node_cell i.node) d v e in (
          placed g asked.whole space width places v (legal_is g (node_cell i.node) v w.leads.legal).target,
          key_over (fit asked) i d v (toward_linked g b t (node_cell i.node) d v w),
        );
  }

  -- all moves toward the goal
  pub all_over : (dirs : List Dir) (best : Offers) (k : Table) (i : Searching best k) → (n : Node)
      → i.node ≡ n
      → (j : Searching (with_all x best (ways_over g b t (node_cell n) dirs))
      (all_offered g b t at (rank_left t n) (node_cell n) dirs k)) × (j.node ≡ n)
  all_over [] best k i n e = (i, e)
  all_over (d ∷ dirs) best k i n e =
      by_move (λ p l j f. all_over dirs p l j n f) (toward g b t (node_cell n) d) refl
    where
      by_move : ((p : Offers) (l : Table) (j : Searching p l) → j.node ≡ n
          → (q : Searching (with_all x p (ways_over g b t (node_cell n) dirs))
          (all_offered g b t at (rank_left t n) (node_cell n) dirs l)) × (q.node ≡ n))
          → (o : Option Cell) → toward g b t (node_cell n) d ≡ o
          → (j : Searching (with_all x best (with_way d o (ways_over g b t (node_cell n) dirs)))
          (all_offered g b t at (rank_left t n) (node_cell n) dirs (offered_over t at (rank_left t n) d o k)))
          × (j.node ≡ n)
      by_move again None h = again best k i e
      by_move again (Some v) h =
          let w = toward_linked g b t (node_cell n) d v (toward_is g b t (node_cell n) d v h) in
          let on = one_over (fit asked) i n e d v w in
          again (with_onward x best (record { to = start_at v; cost = dir_cost d }))
          (offered ByCell t (offer_to at (rank_left t n) v d) k) on.0 on.1

-- each of these ways is a link
pub are_links : (g : GridData) (b : BoxTeller) (t c : Cell) (u : State) → u ≡ start_at c → (dirs : List Dir)
    (w : Onward) → IsAmong w (ways_over g b t c dirs) → boxed_step g b t u w.to ≡ Some w.cost
are_links g b t c u at_c [] w m = elim m [ ]
are_links g b t c u at_c (d ∷ dirs) w m =
    by_move (λ q. are_links g b t c u at_c dirs w q) (toward g b t c d) refl m
  where
    by_move : (IsAmong w (ways_over g b t c dirs) → boxed_step g b t u w.to ≡ Some w.cost)
        → (o : Option Cell) → toward g b t c d ≡ o → IsAmong w (with_way d o (ways_over g b t c dirs))
        → boxed_step g b t u w.to ≡ Some w.cost
    by_move again None h q = again q
    by_move again (Some v) h q =
        of_among (λ (o : Onward). boxed_step g b t u o.to ≡ Some o.cost)
        (ap (λ (z : State). boxed_step g b t z (start_at v)) at_c
        ∙ (toward_linked g b t c d v (toward_is g b t c d v h)).step u) again q

-- what leads toward the goal is among the ways
module _ (g : GridData) (b : BoxTeller) (t c v : Cell) where
  among : (cost : Cost) → (e : (d : Dir) → leads_toward b t c v d ≡ true
      → (toward g b t c d ≡ Some v) × (dir_cost d ≡ cost)) → (dirs : List Dir)
      → is_toward_by b t c v dirs ≡ true
      → IsAmong (record { to = start_at v; cost = cost }) (ways_over g b t c dirs)
  among cost e [] h = absurd (cc)
  among cost e (d ∷ dirs) h = by_test (leads_toward b t c v d) refl (among cost e dirs) h
    where
      by_move : (o : Option Cell) → IsAmong (record { to = start_at v; cost = cost }) (ways_over g b t c dirs)
          → IsAmong (record { to = start_at v; cost = cost }) (with_way d o (ways_over g b t c dirs))
      by_move None m = m
      by_move (Some w) m = later _ _ m

      here_is : (o : Option Cell) → o ≡ Some v → dir_cost d ≡ cost
          → IsAmong (record { to = start_at v; cost = cost }) (with_way d o (ways_over g b t c dirs))
      here_is o f q = rw f (subst (λ (p : Cost). IsAmong (record { to = start_at v; cost = cost })
          (record { to = start_at v; cost = p } ∷ ways_over g b t c dirs)) (sym q)
          (first (ways_over g b t c dirs)))

      by_test : (p : Bool) → leads_toward b t c v d ≡ p
          → (is_toward_by b t c v dirs ≡ true
          → IsAmong (record { to = start_at v; cost = cost }) (ways_over g b t c dirs))
          → (p || is_toward_by b t c v dirs) ≡ true
          → IsAmong (record { to = start_at v; cost = cost })
          (with_way d (toward g b t c d) (ways_over g b t c dirs))
      by_test true f again h = let r = e d f in here_is (toward g b t c d) r.0 r.1
      by_test false f again h = by_move (toward g b t c d) (again h)

-- each link is among the ways
pub enough : (g : GridData) (b : BoxTeller) (t : Cell) (u v : State) (c : Cost)
    → boxed_step g b t u v ≡ Some c
    → IsAmong (record { to = v; cost = c }) (ways_over g b t u.cell all_dirs)
enough g b t u v c l =
    let m = boxed_move g b t u v c l in
    let is : IsAmong (record { to = start_at v.cell; cost = c }) (ways_over g b t u.cell all_dirs) =
    among g b t u.cell v.cell c (λ d h. let r = leads_is g b t u.cell v.cell d m.legal h in
    (r.to, sym r.priced ∙ sym m.cost)) all_dirs (step_toward g b t u v c l) in
    subst (λ (q : State). IsAmong (record { to = q; cost = c }) (ways_over g b t u.cell all_dirs))
    (sym m.plain) is
