-- A taken state's offers of moves, over any links from cell to cell.
use Rattle.std.proofs.lemmas.Grind.{common_steps}
use Rattle.std.proofs.Common.{◌≡◌, ℕ, ◌+◌, ◌<◌, ◌≤◌, ◌^◌, List, ◌∷◌, ap, sym, ◌∙◌, subst, true, arith}
use Rattle.std.specs.Prelude.{Some}
use Rattle.root2_cost.specs.declared.Cost.{Cost}
use Rattle.root2_cost.specs.Rank.{rank_of}
use Rattle.root2_cost.proofs.Differences.{rank-add_costs}
use Rattle.grid_moves.specs.declared.Cell.{Cell}
use Rattle.grid_moves.specs.declared.Dir.{Dir}
use Rattle.grid_moves.specs.Grid.{GridData, is_free}
use Rattle.grid_moves.specs.Points.{estimate}
use Rattle.grid_moves.specs.Move.{dir_cost}
use Rattle.search_run.specs.Run.{Taken, here}
use Rattle.best_first.specs.declared.node.Node.{Node}
use Rattle.best_first.specs.declared.state.State.{State}
use Rattle.best_first.specs.declared.state.Layout.TheVariants.{ByCell}
use Rattle.best_first.specs.Mirror.{Offers, IsSearching}
use Rattle.best_first.specs.Rule.{IsSearch, Links}
use Rattle.best_first.specs.State.{start_at}
use Rattle.best_first.specs.Table.{Table, node_for, offered}
use Rattle.best_first.specs.Trace.{node_cell, rank_left}
use Rattle.best_first.specs.Ways.{with_onward}
use Rattle.best_first.proofs.Backing.{left_is}
use Rattle.best_first.proofs.Mirrors.{some_node}
use Rattle.best_first.proofs.Searching.{IsOver, one_more, node_stays, key_rises, taken_key}
use Rattle.plain_search.specs.Offers.{offer_to}
use Rattle.plain_search.proofs.Posed.{IsAsked, run_free}

-- the move in this direction, from one cell to the other, is a link
pub record IsLinked (link : Links) (c : Cell) (d : Dir) (v : Cell) : Type 0 where
  pub step : (p : State) → link.step p (start_at c) (start_at v) ≡ Some (dir_cost d)
  pub led : link.led (start_at c) (record { cell = v; arrival = Some d }) ≡ true

module _ {width height : ℕ} {s t : Cell} {link : Links} (fit : IsSearch width height s t link)
    {x : Taken State}
    {earlier : List (Taken State)} {at : ℕ} {best : Offers} {k : Table}
    (i : IsSearching ByCell width t link s x earlier at best k) where
  pub state_is : x.state ≡ start_at (node_cell i.node)
  state_is = sym i.state

  left : rank_left t i.node ≡ rank_of x.cost
  left = left_is fit i at i.node i.node_is x (here earlier) i.state

  -- the rank of its cost is small, and the estimate is part of its key
  pub left_small : rank_left t i.node < 2 ^ 62
  left_small = rw left (small x.cost (fit.few (x ∷ earlier) x i.run (here earlier)))
    where
      small : (d : Cost) → d.a + d.b ≤ 2 ^ 28 → rank_of d < 2 ^ 62
      small d f = omega arith

  pub estimate_within : rank_of (estimate (node_cell i.node) t) ≤ i.node.key
  estimate_within =
      later_part i.node.key (rank_of x.cost) (rank_of (estimate (node_cell i.node) t))
      (taken_key fit i at i.node i.node_is x (here earlier) (sym i.state)
      ∙ rank-add_costs x.cost (estimate x.state.cell t)
      ∙ ap (λ (u : State). rank_of x.cost + rank_of (estimate u.cell t)) state_is)
    where
      later_part : (m a b : ℕ) → m ≡ a + b → b ≤ m
      later_part m a b e = omega arith

  module _ (d : Dir) (v : Cell) (l : IsLinked link (node_cell i.node) d v) where
    over : IsOver ByCell link x at (offer_to at (rank_left t i.node) v d) (dir_cost d)
    over = grind (arith, common_steps, state_is, left, rank-add_costs)

    -- no key falls
    pub key_over : i.node.key ≤ (node_for t (offer_to at (rank_left t i.node) v d)).key
    key_over = key_rises fit i (offer_to at (rank_left t i.node) v d) (dir_cost d) over

    own_over : (j : IsSearching ByCell width t link s x earlier at
        (with_onward x best (record { to = start_at v; cost = dir_cost d }))
        (offered ByCell t (offer_to at (rank_left t i.node) v d) k)) × (j.node ≡ i.node)
    own_over =
        let j = one_more fit i (offer_to at (rank_left t i.node) v d) (dir_cost d) over in
        let stays = node_stays fit i (offer_to at (rank_left t i.node) v d) (dir_cost d) over in
        (j, some_node j.node i.node (sym j.node_is ∙ stays))

  -- one move more, which leaves the node
  pub one_over : (n : Node) → i.node ≡ n → (d : Dir) (v : Cell) → IsLinked link (node_cell n) d v
      → (j : IsSearching ByCell width t link s x earlier at
      (with_onward x best (record { to = start_at v; cost = dir_cost d }))
      (offered ByCell t (offer_to at (rank_left t n) v d) k)) × (j.node ≡ n)
  one_over n e d v = subst (λ (m : Node). IsLinked link (node_cell m) d v
      → (j : IsSearching ByCell width t link s x earlier at
      (with_onward x best (record { to = start_at v; cost = dir_cost d }))
      (offered ByCell t (offer_to at (rank_left t m) v d) k)) × (j.node ≡ m)) e (own_over d v)

-- the cell of the taken state's node is free
pub node_free : {g : GridData} {s t : Cell} {link : Links} (asked : IsAsked g s t link) {x : Taken State}
    {earlier : List (Taken State)} {at : ℕ} {best : Offers} {k : Table}
    (i : IsSearching ByCell g.width t link s x earlier at best k) → is_free g (node_cell i.node) ≡ true
node_free {g = g} asked {x = x} {earlier = earlier} i =
    ap (λ (u : State). is_free g u.cell) i.state ∙ (run_free asked (x ∷ earlier) i.run x (here earlier)).0
