-- How a table keeps the run of a search.
use Rattle.std.specs.Prelude.{◌≡◌, ℕ, ◌<◌, true, false, not, List, ◌∷◌, length, Option, Some, None}
use Rattle.std.specs.Prelude.{if◌then◌else◌, slice_get}
use Rattle.root2_cost.specs.Laws.{HasShortParts}
use Rattle.root2_cost.specs.Rank.{rank_of}
use Rattle.grid_moves.specs.declared.Cell.{Cell}
use Rattle.search_run.specs.Run.{Taken, Offer, IsIn, lesser, is_taken, has_goal, sum_at, IsRun}
use Rattle.best_first.specs.declared.node.Node.{Node}
use Rattle.best_first.specs.declared.state.State.{State}
use Rattle.best_first.specs.declared.state.Layout.{Layout}
use Rattle.best_first.specs.State.{is_same_state, start_at, state_of_place}
use Rattle.best_first.specs.Rule.{Links, search_rule}
use Rattle.best_first.specs.Node.{state_of}
use Rattle.best_first.specs.Table.{Table, lookup}

-- for each state the offer that is kept for it
abbrev pub Offers : Type 0
Offers = State → Option (Offer State)

-- these offers, with one more for a state
abbrev pub with_offer : Offers → State → Offer State → Offers
with_offer best v o s = if is_same_state v s then lesser (best s) (Some o) else best s

module _ (layout : Layout) (width : ℕ) (goal : Cell) (link : Links) where
  -- the node keeps the offer: its key is the rank of the sum, and its parent is the node of the state
  -- that made the offer
  pub record Keeps (nodes : List Node) (n : Node) (o : Offer State) : Type 0 where
    pub key : n.key ≡ rank_of (sum_at (search_rule width goal link) (state_of layout n) o.cost)
    pub short : HasShortParts (sum_at (search_rule width goal link) (state_of layout n) o.cost)
    pub parent : Node
    pub parent_is : slice_get nodes n.parent ≡ Some parent
    pub from : state_of layout parent ≡ o.from

  -- the node is in order: it is open where its state was not taken, and keeps the state's best offer, or the
  -- one by which the state was taken
  pub record IsInOrder (run : List (Taken State)) (best : Offers) (k : Table) (id : ℕ) (n : Node)
      : Type 0 where
    pub column : (state_of_place n.place).cell.x < width
    pub opened : slice_get k.open_at id
        ≡ Some (not (is_taken (search_rule width goal link) run (state_of layout n)))
    pub offer : Offer State
    pub keeps : Keeps k.nodes n offer
    pub led : link.led offer.from (state_of_place n.place) ≡ true
    pub source : is_taken (search_rule width goal link) run offer.from ≡ true
    pub best_is : is_taken (search_rule width goal link) run (state_of layout n) ≡ false
        → best (state_of layout n) ≡ Some offer
    pub taken_by : (u : Taken State) → IsIn u run → u.state ≡ state_of layout n
        → (u.cost ≡ offer.cost) × (u.parent ≡ offer.from)

  -- the table keeps this run: one node for each state that was taken or has an offer
  pub record Mirrors (run : List (Taken State)) (best : Offers) (k : Table) : Type 0 where
    pub in_order : (id : ℕ) (n : Node) → slice_get k.nodes id ≡ Some n → IsInOrder run best k id n
    pub only : (i j : ℕ) (m n : Node) → slice_get k.nodes i ≡ Some m → slice_get k.nodes j ≡ Some n
        → state_of layout m ≡ state_of layout n → i ≡ j
    pub known : (s : State) → lookup layout k.nodes s ≡ None
        → (is_taken (search_rule width goal link) run s ≡ false) × (best s ≡ None)
    pub no_more : length k.open_at ≡ length k.nodes

  -- the search has taken x last, whose node has this number, and keeps these offers; the start's node is 0
  pub record IsSearching (start : Cell) (x : Taken State) (earlier : List (Taken State)) (at : ℕ)
      (best : Offers) (k : Table) : Type 0 where
    pub run : IsRun (search_rule width goal link) (start_at start) (x ∷ earlier)
    pub no_goal : has_goal (search_rule width goal link) earlier ≡ false
    pub mirrors : Mirrors (x ∷ earlier) best k
    pub node : Node
    pub node_is : slice_get k.nodes at ≡ Some node
    pub state : state_of layout node ≡ x.state
    pub origin : Node
    pub origin_is : slice_get k.nodes 0 ≡ Some origin
    pub origin_state : state_of layout origin ≡ start_at start
