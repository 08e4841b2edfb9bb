-- The way along the parents.
use Rattle.std.specs.Prelude.{◌≡◌, ◌≢◌, ℕ, ◌+◌, ◌-◌, ◌<◌, ◌≤◌, ◌^◌, List, [], ◌∷◌, ◌++◌, Some, slice_get}
use Rattle.std.specs.Prelude.{reverse}
use Rattle.std.specs.Option.{option_map_or}
use Rattle.root2_cost.specs.declared.Cost.{Cost}
use Rattle.root2_cost.specs.Rank.{rank_of}
use Rattle.root2_cost.specs.Sums.{add_costs, no_cost}
use Rattle.grid_moves.specs.declared.Cell.{Cell}
use Rattle.grid_moves.specs.Points.{estimate}
use Rattle.best_first.specs.declared.node.Node.{Node}
use Rattle.best_first.specs.State.{state_of_place}

-- the cell of a node
abbrev pub node_cell : Node → Cell
node_cell n = (state_of_place n.place).cell

-- the rank of a node's cost: its key less the rank of the estimate
abbrev pub rank_left : Cell → Node → ℕ
rank_left goal n = n.key - rank_of (estimate (node_cell n) goal)

-- that of the node of this number
abbrev pub rank_at : Cell → List Node → ℕ → ℕ
rank_at goal nodes id = option_map_or (λ n. rank_left goal n) (slice_get nodes id) 0

-- from the node of this number back along the parents to the start, which has the number 0, these are the
-- cells; the way between costs this, and ranks of costs fall
pub data IsBack (goal : Cell) (nodes : List Node) : ℕ → List Cell → Cost → Type 0 where
  stops : (id : ℕ) (n : Node) → id ≡ 0 → slice_get nodes id ≡ Some n
      → IsBack goal nodes id (node_cell n ∷ []) no_cost
  goes : (id : ℕ) (n p : Node) (cells : List Cell) (c : Cost) → id ≢ 0 → slice_get nodes id ≡ Some n
      → slice_get nodes n.parent ≡ Some p → rank_left goal p < rank_left goal n
      → IsBack goal nodes n.parent cells c
      → IsBack goal nodes id (node_cell n ∷ cells) (add_costs c (estimate (node_cell p) (node_cell n)))

-- some way leads back from the node, and it has few moves
pub record HasBack (goal : Cell) (nodes : List Node) (id : ℕ) : Type 0 where
  pub cells : List Cell
  pub cost : Cost
  pub is_back : IsBack goal nodes id cells cost
  pub few : cost.a + cost.b ≤ 2 ^ 28

-- the cells so far, then those back from the node, are those back from the first; the costs so far and that
-- of the rest make its cost
pub record IsOnTheWay (goal : Cell) (nodes : List Node) (first : ℕ) (points : List Cell)
    (cost : Cost) (id : ℕ)
    : Type 0 where
  pub cells : List Cell
  pub total : Cost
  pub is_back : IsBack goal nodes first cells total
  pub few : total.a + total.b ≤ 2 ^ 28
  pub rest : List Cell
  pub left : Cost
  pub rest_is_back : IsBack goal nodes id rest left
  pub joined : points ++ rest ≡ cells
  pub priced : add_costs left cost ≡ total

-- the points are the cells from the start to the node, and this is their way's cost
abbrev pub IsWayTo : Cell → List Node → ℕ → List Cell → Cost → Type 0
IsWayTo goal nodes id points cost = IsBack goal nodes id (reverse points) cost
