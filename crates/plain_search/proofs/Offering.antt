-- A state's offers of the moves that are kept make the least offers those after it.
use Rattle.std.proofs.lemmas.Grind.{common_steps}
use Rattle.std.proofs.lemmas.Bool.Decides.{nat_tests}
use Rattle.std.proofs.Common.{◌≡◌, ℕ, ◌*◌, ◌⊎◌, inl, inr, List, [], ◌∷◌, refl, ap, sym, ◌∙◌, subst, Bool}
use Rattle.std.proofs.Common.{true, false, arith}
use Rattle.std.specs.Prelude.{Option, Some, None, if◌then◌else◌}
use Rattle.std.proofs.lemmas.Bool.{cases_Bool, or_parts}
use Rattle.root2_cost.specs.declared.Cost.{Cost}
use Rattle.root2_cost.specs.Order.{IsAtMost}
use Rattle.root2_cost.specs.Sums.{add_costs}
use Rattle.grid_moves.specs.declared.Cell.{Cell}
use Rattle.grid_moves.specs.declared.Dir.{Dir}
use Rattle.grid_moves.specs.declared.around.Around.{Around}
use Rattle.grid_moves.specs.Grid.{GridData}
use Rattle.grid_moves.specs.Move.{is_legal, is_same, move_cost, ahead, all_dirs, dir_cost, legal_ahead}
use Rattle.grid_moves.proofs.Ahead.{legal_ahead-of}
use Rattle.grid_moves.proofs.Costs.{cost_there}
use Rattle.grid_moves.proofs.Legal.{is_same-cell, is_same-itself, legal_is}
use Rattle.search_run.specs.Run.{Taken, IsRun, is_taken, least_offer}
use Rattle.search_run.proofs.Leastness.{least_offer-from, is_taken-member}
use Rattle.search_run.proofs.Parents.{parent_offers}
use Rattle.best_first.specs.declared.node.Node.{Node}
use Rattle.best_first.specs.declared.state.State.{State}
use Rattle.best_first.specs.declared.state.Layout.TheVariants.{ByCell}
use Rattle.best_first.specs.Mirror.{Offers, IsSearching}
use Rattle.best_first.specs.Space.{SpaceData}
use Rattle.best_first.specs.State.{start_at, is_same_state}
use Rattle.best_first.specs.Table.{Table, offered}
use Rattle.best_first.specs.Trace.{node_cell, rank_left}
use Rattle.best_first.specs.Ways.{Onward, IsAmong, first, later, with_onward, with_all}
use Rattle.best_first.proofs.Links.{estimate_triangle}
use Rattle.best_first.proofs.Ways.{of_among}
use Rattle.best_first.proofs.Searching.{closed_below}
use Rattle.grid_moves.proofs.Dirs.{In, first as here_is, later as there_is, in_all}
use Rattle.plain_search.specs.declared.moves.Behind.{Behind}
use Rattle.plain_search.specs.Rule.{plain_rule, plain_links, is_led, plain_step}
use Rattle.grid_moves.specs.Around.{is_open_to, end_of, IsAround}
use Rattle.plain_search.specs.Offers.{sides_of, less_offered, offer_to, all_offered, ways_over, MayExpand}
use Rattle.plain_search.proofs.Dropping.{LeadsTo, leads, open_leads, dropped, all_kept}
use Rattle.plain_search.proofs.Expanding.{kept_open, kept_end}
use Rattle.plain_search.proofs.Leaving.{lies_at, ahead_parts, before_is}
use Rattle.plain_search.proofs.Moving.{IsLinked, estimate_within, key_over, left_small, node_free, one_over}
use Rattle.plain_search.proofs.Posed.{IsAsked, fit, placed, run_free}
use Rattle.plain_search.proofs.Walks.{IsMove, link_move, legal_link, move_cost-estimate, plain_consistent}

-- an open move is a link
pub open_linked : (g : GridData) (c : Cell) (d : Dir) (v : Cell) → LeadsTo g c d v
    → IsLinked (plain_links g) c d v
open_linked g c d v h1 = grind (arith, common_steps, legal_link, cost_there, is_same-itself)

module _ (g : GridData) (a : Around) (sides : Behind) where
  abbrev kept : Around
  kept = less_offered a sides

  -- a move that is kept is a link
  pub kept_linked : (c : Cell) (d : Dir) → IsAround g c a → is_open_to kept d ≡ true
      → IsLinked (plain_links g) c d (end_of kept c d)
  kept_linked c d r h =
      open_linked g c d (end_of kept c d) (subst (λ (w : Cell). LeadsTo g c d w) (sym (kept_end a sides c d))
      (open_leads g c a d r (kept_open a sides d h)))

  -- each of these ways is a link
  pub are_links : (c : Cell) (u : State) → u ≡ start_at c → IsAround g c a → (dirs : List Dir) (w : Onward)
      → IsAmong w (ways_over kept c dirs) → plain_step g u w.to ≡ Some w.cost
  are_links c u at_c r [] w m = elim m [ ]
  are_links c u at_c r (d ∷ dirs) w m =
      by_flag (λ q. are_links c u at_c r dirs w q) (is_open_to kept d) refl m
    where
      by_flag : (IsAmong w (ways_over kept c dirs) → plain_step g u w.to ≡ Some w.cost)
          → (b : Bool) → is_open_to kept d ≡ b
          → IsAmong w (if b then record { to = start_at (end_of kept c d); cost = dir_cost d }
          ∷ ways_over kept c dirs else ways_over kept c dirs)
          → plain_step g u w.to ≡ Some w.cost
      by_flag again false h q = again q
      by_flag again true h q =
          of_among (λ (o : Onward). plain_step g u o.to ≡ Some o.cost)
          (ap (λ (z : State). plain_step g z (start_at (end_of kept c d))) at_c
          ∙ (kept_linked c d r h).step u) again q

module _ {g : GridData} {s t : Cell} (asked : IsAsked g s t (plain_links g)) (x : Taken State)
    (earlier : List (Taken State)) (at : ℕ) where
  abbrev Searching : Offers → Table → Type 0
  Searching best k = IsSearching ByCell g.width t (plain_links g) s x earlier at best k

  -- what the offers of the taken state ask for
  pub may_expand : {best : Offers} {k : Table} (i : Searching best k) (space : SpaceData) → space.table ≡ k
      → space.width ≡ g.width → space.places ≡ g.height * g.width → MayExpand g t at i.node space
  may_expand i space table width places = record {
    free = node_free asked i;
    keyed = estimate_within (fit asked) i;
    short = left_small (fit asked) i;
    closed = rw table (closed_below (fit asked) i);
    may = λ a around d h.
        let c = node_cell i.node in
        let l = open_leads g c a d around h in (
          placed g asked.whole space width places (end_of a c d) (legal_is g c (end_of a c d) l.legal).target,
          key_over (fit asked) i d (end_of a c d) (open_linked g c d (end_of a c d) l),
        );
  }

  -- all open moves that are kept
  pub all_over : (a : Around) (sides : Behind) (dirs : List Dir) (best : Offers) (k : Table)
      (i : Searching best k)
      → (n : Node) → i.node ≡ n → IsAround g (node_cell n) a
      → (j : Searching (with_all x best (ways_over (less_offered a sides) (node_cell n) dirs))
      (all_offered t at (rank_left t n) (less_offered a sides) (node_cell n) dirs k)) × (j.node ≡ n)
  all_over a sides [] best k i n e r = (i, e)
  all_over a sides (d ∷ dirs) best k i n e r =
      by_flag (λ b l j f. all_over a sides dirs b l j n f r) (is_open_to (less_offered a sides) d) refl
    where
      by_flag : ((b : Offers) (l : Table) (j : Searching b l) → j.node ≡ n
          → (q : Searching (with_all x b (ways_over (less_offered a sides) (node_cell n) dirs))
          (all_offered t at (rank_left t n) (less_offered a sides) (node_cell n) dirs l)) × (q.node ≡ n))
          → (b : Bool) → is_open_to (less_offered a sides) d ≡ b
          → (j : Searching
          (with_all x best (if b then record {
            to = start_at (end_of (less_offered a sides) (node_cell n) d);
            cost = dir_cost d;
          } ∷ ways_over (less_offered a sides) (node_cell n) dirs
          else ways_over (less_offered a sides) (node_cell n) dirs))
          (all_offered t at (rank_left t n) (less_offered a sides) (node_cell n) dirs
          (if b then offered ByCell t
          (offer_to at (rank_left t n) (end_of (less_offered a sides) (node_cell n) d) d) k else k)))
          × (j.node ≡ n)
      by_flag again false h = again best k i e
      by_flag again true h =
          let v : Cell = end_of (less_offered a sides) (node_cell n) d in
          let on = one_over (fit asked) i n e d v (kept_linked g a sides (node_cell n) d r h) in
          again (with_onward x best (record { to = start_at v; cost = dir_cost d }))
          (offered ByCell t (offer_to at (rank_left t n) v d) k) on.0 on.1

-- an open move is among the ways
among : (a : Around) (c : Cell) (d : Dir) → is_open_to a d ≡ true → (dirs : List Dir) → In d dirs
    → IsAmong (record { to = start_at (end_of a c d); cost = dir_cost d }) (ways_over a c dirs)
among a c d h [] m = elim m [ ]
among a c d h (e ∷ dirs) (here_is z) = rw h (first (ways_over a c dirs))
among a c d h (e ∷ dirs) (there_is z w m) = by_flag (is_open_to a e) (among a c d h dirs m)
  where
    by_flag : (b : Bool) → IsAmong (record { to = start_at (end_of a c d); cost = dir_cost d })
        (ways_over a c dirs)
        → IsAmong (record { to = start_at (end_of a c d); cost = dir_cost d })
        (if b then record { to = start_at (end_of a c e); cost = dir_cost e } ∷ ways_over a c dirs
        else ways_over a c dirs)
    by_flag true q = later _ _ q
    by_flag false q = q

-- what is led leads ahead
pub led_ahead : (u v : Cell) (d : Dir) → is_led u v (Some d) ≡ true → ahead d u ≡ Some v
led_ahead u v d h1 = grind (arith, nat_tests, is_same-cell)

-- a move leads to another cell
ahead_apart : (d : Dir) (u : Cell) → ahead d u ≡ Some u → ⊥
ahead_apart d u h =
    let p = ahead_parts d u u h in let column = p.0 in let row = p.1 in grind (arith, before_is)

-- what a flag and its cell tell
flag_is : (b : Bool) (v w : Cell) → (if b then Some v else None) ≡ Some w → (b ≡ true) × (v ≡ w)
flag_is true v w h = (refl, cc)
flag_is false v w h = absurd (cc)

module _ {g : GridData} {s t : Cell} (asked : IsAsked g s t (plain_links g)) where
  -- a neighbour of the parent has its offer
  left_out : (x : Taken State) (earlier : List (Taken State))
      → IsRun (plain_rule g t) (start_at s) (x ∷ earlier) → (a : Around) → IsAround g x.state.cell a
      → (e : Dir) → ahead e x.parent.cell ≡ Some x.state.cell → (v : State) (c : Cost) → IsMove g x.state v c
      → is_taken (plain_rule g t) (x ∷ earlier) v ≡ false → (d : Dir) → ahead d x.state.cell ≡ Some v.cell
      → is_open_to a d ≡ true → is_open_to (less_offered a (sides_of (Some e))) d ≡ false
      → least_offer (plain_rule g t) (x ∷ earlier) v ≡ least_offer (plain_rule g t) earlier v
  left_out x [] is a r e given v c m untaken d on opened dropped_is = absurd
      (let first : x ≡ record {
        state = start_at s;
        cost = record { a = 0; b = 0 };
        parent = start_at s;
      } = is in
      let at_start : x.parent.cell ≡ s = ap (λ (u : Taken State). u.parent.cell) first in
      let here_start : x.state.cell ≡ s = ap (λ (u : Taken State). u.state.cell) first in
      ahead_apart e s (ap (λ (u : Cell). ahead e u) (sym at_start) ∙ given
      ∙ ap (λ (u : Cell). Some u) here_start))
  left_out x (y ∷ rest) is a r e given v c m untaken d on opened dropped_is =
      let f = least_offer-from (plain_rule g t) (y ∷ rest) x.state
      (record { cost = x.cost; from = x.parent }) is.2.offered in
      let linked : plain_step g x.parent x.state ≡ Some f.offered.step =
      ap (λ (u : State). plain_step g u x.state) f.offered.source ∙ f.offered.linked in
      let into = link_move g x.parent x.state f.offered.step linked in
      let plain_parent : x.parent ≡ start_at x.parent.cell
      = subst (λ (u : State). u ≡ start_at u.cell) (sym f.offered.source)
      (run_free asked (y ∷ rest) is.0 f.by f.member).1 in
      let parent_taken : is_taken (plain_rule g t) (y ∷ rest) x.parent ≡ true
      = ap (λ (u : State). is_taken (plain_rule g t) (y ∷ rest) u) f.offered.source
      ∙ is_taken-member (plain_rule g t) (plain_consistent g t) (y ∷ rest) f.by f.member in
      let other : is_same x.parent.cell v.cell ≡ false
      = not_parent (is_same x.parent.cell v.cell) refl plain_parent parent_taken in
      let lies = lies_at e x.parent.cell x.state.cell given in
      let legal = dropped g x.parent.cell x.state.cell v.cell a (sides_of (Some e)) r lies into.legal other
      m.legal d on opened dropped_is in
      let step : plain_step g x.parent v ≡ Some (move_cost x.parent.cell v.cell)
      = ap (λ (u : State). plain_step g x.parent u) m.plain
      ∙ legal_link g x.parent.cell v.cell legal in
      let here : plain_step g x.state v ≡ Some c
      = ap (λ (u : State). plain_step g x.state u) m.plain ∙ legal_link g x.state.cell v.cell m.legal
      ∙ ap (λ (q : Cost). Some q) (sym m.cost) in
      parent_offers (plain_rule g t) (start_at s) x y rest v f.offered.step (move_cost x.parent.cell v.cell) c
      is (λ p. linked) (λ p. step) here (no_dearer into legal)
    where
      not_parent : (b : Bool) → is_same x.parent.cell v.cell ≡ b → x.parent ≡ start_at x.parent.cell
          → is_taken (plain_rule g t) (y ∷ rest) x.parent ≡ true → is_same x.parent.cell v.cell ≡ false
      not_parent false h p q = h
      not_parent true h p q = absurd (
          let one : x.parent ≡ v = p ∙ ap (λ (u : Cell). start_at u) (is_same-cell x.parent.cell v.cell h)
          ∙ sym m.plain in
          let yes : is_taken (plain_rule g t) (y ∷ rest) v ≡ true =
          ap (λ (u : State). is_taken (plain_rule g t) (y ∷ rest) u) (sym one) ∙ q in
          let no = (or_parts (is_same_state x.state v) (is_taken (plain_rule g t) (y ∷ rest) v) untaken).1 in
          cc)

      no_dearer : {b : Cost} → IsMove g x.parent x.state b → is_legal g x.parent.cell v.cell ≡ true
          → IsAtMost (move_cost x.parent.cell v.cell) (add_costs b c)
      no_dearer {b} into legal =
          rw (move_cost-estimate g x.parent.cell v.cell legal, into.cost, m.cost)
          (rw (
            move_cost-estimate g x.parent.cell x.state.cell into.legal,
            move_cost-estimate g x.state.cell v.cell m.legal,
          )
          (estimate_triangle x.parent.cell x.state.cell v.cell))

  -- a link is among the ways, or was left out
  pub enough : (x : Taken State) (earlier : List (Taken State))
      → IsRun (plain_rule g t) (start_at s) (x ∷ earlier) → (a : Around) → IsAround g x.state.cell a
      → (e : Option Dir) → is_led x.parent.cell x.state.cell e ≡ true → (v : State) (c : Cost)
      → is_taken (plain_rule g t) (x ∷ earlier) v ≡ false → plain_step g x.state v ≡ Some c
      → IsAmong (record { to = v; cost = c }) (ways_over (less_offered a (sides_of e)) x.state.cell all_dirs)
      ⊎ (least_offer (plain_rule g t) (x ∷ earlier) v ≡ least_offer (plain_rule g t) earlier v)
  enough x earlier is a r e given v c untaken l = by_kept e given
    where
      m : IsMove g x.state v c
      m = link_move g x.state v c l

      d : Dir
      d = (legal_ahead-of g x.state.cell v.cell m.legal).0

      d_is : legal_ahead g x.state.cell d ≡ Some v.cell
      d_is = (legal_ahead-of g x.state.cell v.cell m.legal).1

      on : ahead d x.state.cell ≡ Some v.cell
      on = (leads g x.state.cell d v.cell d_is).ahead_is

      flag : (is_open_to a d ≡ true) × (end_of a x.state.cell d ≡ v.cell)
      flag = flag_is (is_open_to a d) (end_of a x.state.cell d) v.cell (r d ∙ d_is)

      is_among : (q : Option Dir) → is_open_to (less_offered a (sides_of q)) d ≡ true
          → IsAmong (record { to = v; cost = c })
          (ways_over (less_offered a (sides_of q)) x.state.cell all_dirs)
      is_among q h =
          let ends : end_of (less_offered a (sides_of q)) x.state.cell d ≡ v.cell =
          kept_end a (sides_of q) x.state.cell d ∙ flag.1 in
          let state : start_at (end_of (less_offered a (sides_of q)) x.state.cell d) ≡ v =
          ap (λ (u : Cell). start_at u) ends ∙ sym m.plain in
          let cost : dir_cost d ≡ c = sym (cost_there d x.state.cell v.cell on) ∙ sym m.cost in
          subst (λ (u : State). IsAmong (record { to = u; cost = c })
          (ways_over (less_offered a (sides_of q)) x.state.cell all_dirs)) state
          (subst (λ (b : Cost). IsAmong (record {
            to = start_at (end_of (less_offered a (sides_of q)) x.state.cell d);
            cost = b;
          }) (ways_over (less_offered a (sides_of q)) x.state.cell all_dirs)) cost
          (among (less_offered a (sides_of q)) x.state.cell d h all_dirs (in_all d)))

      by_kept : (q : Option Dir) → is_led x.parent.cell x.state.cell q ≡ true
          → IsAmong (record { to = v; cost = c })
          (ways_over (less_offered a (sides_of q)) x.state.cell all_dirs)
          ⊎ (least_offer (plain_rule g t) (x ∷ earlier) v ≡ least_offer (plain_rule g t) earlier v)
      by_kept None h = inl (is_among None (all_kept a d flag.0))
      by_kept (Some q) h = elim (cases_Bool (is_open_to (less_offered a (sides_of (Some q))) d)) [
        | inl k ↦ inl (is_among (Some q) k)
        | inr k ↦
            inr (left_out x earlier is a r q (led_ahead x.parent.cell x.state.cell q h) v c m untaken d on
            flag.0 k)
      ]
