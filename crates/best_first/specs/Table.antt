-- The nodes of a search, and how each step changes them, as plain functions.
use Rattle.std.specs.Prelude.{◌≡◌, ℕ, suc, ◌+◌, ◌≤◌, Bool, true, false, nat_lt, List, [], ◌∷◌, ◌++◌, length}
use Rattle.std.specs.Prelude.{Option, Some, None, option_map, if◌then◌else◌, slice_get, slice_set}
use Rattle.std.specs.Option.{option_map_or}
use Rattle.root2_cost.specs.Rank.{rank_of}
use Rattle.grid_moves.specs.declared.Cell.{Cell}
use Rattle.grid_moves.specs.Points.{estimate}
use Rattle.best_first.specs.declared.node.Node.{Node}
use Rattle.best_first.specs.declared.node.Offer.{Offer}
use Rattle.best_first.specs.declared.state.State.{State}
use Rattle.best_first.specs.declared.state.Layout.{Layout}
use Rattle.best_first.specs.State.{state_in, place_of, start_at, is_same_state}
use Rattle.best_first.specs.Node.{ranks_before, state_of}

-- the nodes by their numbers, and whether each is open
pub record Table : Type 0 where
  pub nodes : List Node
  pub open_at : List Bool

-- the number of a state's node, if it has one
abbrev pub lookup : Layout → List Node → State → Option ℕ
lookup layout [] s = None
lookup layout (n ∷ nodes) s =
    if is_same_state (state_of layout n) s then Some 0 else option_map (λ id. suc id) (lookup layout nodes s)

-- the node of an offer: its key is the rank of its cost and of the estimate of what is left
abbrev pub node_for : Cell → Offer → Node
node_for goal o = record {
  key = o.rank + rank_of (estimate o.to.cell goal);
  parent = o.parent;
  place = place_of o.to;
}

-- with a new node, which is open
abbrev pub added : Node → Table → Table
added n k = record { nodes = k.nodes ++ n ∷ []; open_at = k.open_at ++ true ∷ [] }

-- with this node in place of the one of that number
abbrev pub replaced : ℕ → Node → Table → Table
replaced id n k = record { nodes = slice_set k.nodes id n; open_at = k.open_at }

-- the node of that number has a greater key than this
abbrev pub is_bettered : List Node → ℕ → ℕ → Bool
is_bettered nodes id key = option_map_or (λ n. nat_lt key n.key) (slice_get nodes id) false

-- with a node for a state that has none, or has the node of a greater key
abbrev pub offered_at : Option ℕ → Node → Table → Table
offered_at None n k = added n k
offered_at (Some id) n k = if is_bettered k.nodes id n.key then replaced id n k else k

-- after an offer
abbrev pub offered : Layout → Cell → Offer → Table → Table
offered layout goal o k = offered_at (lookup layout k.nodes (state_in layout o.to)) (node_for goal o) k

-- one node, that of the start, which is closed
abbrev pub begun : Cell → Cell → Table
begun goal start = record {
  nodes = node_for goal (record { rank = 0; parent = 0; to = start_at start }) ∷ [];
  open_at = false ∷ [];
}

-- the table with the node of that number closed
abbrev pub closed_at : ℕ → Table → Table
closed_at id k = record { nodes = k.nodes; open_at = slice_set k.open_at id false }

-- the node of that number is open, and no open node ranks before it
pub record IsFirstNode (k : Table) (id : ℕ) : Type 0 where
  pub node : Node
  pub node_is : slice_get k.nodes id ≡ Some node
  pub is_open : slice_get k.open_at id ≡ Some true
  pub first : (other : ℕ) (x : Node) → slice_get k.open_at other ≡ Some true
      → slice_get k.nodes other ≡ Some x → ranks_before x node ≡ false

-- no node is open
abbrev pub NoneOpen : Table → Type 0
NoneOpen k = (id : ℕ) → slice_get k.open_at id ≡ Some true → ⊥

-- no closed node has a greater key than this
pub record ClosedBelow (key : ℕ) (k : Table) : Type 0 where
  pub flags : length k.open_at ≡ length k.nodes
  pub below : (id : ℕ) (n : Node) → slice_get k.nodes id ≡ Some n → slice_get k.open_at id ≡ Some false
      → n.key ≤ key
