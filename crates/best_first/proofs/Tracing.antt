-- One step on the way back along the parents.
use Rattle.std.proofs.lemmas.Bool.Decides.{nat_tests}
use Rattle.std.proofs.lemmas.Grind.{common_steps}
use Rattle.std.proofs.Common.{◌≡◌, ◌≢◌, ℕ, ◌<◌, List, [], ◌∷◌, ◌++◌, arith}
use Rattle.std.specs.Prelude.{Some, slice_get}
use Rattle.root2_cost.specs.declared.Cost.{Cost}
use Rattle.root2_cost.specs.Sums.{add_costs, no_cost}
use Rattle.root2_cost.proofs.Less.{same_cost}
use Rattle.grid_moves.specs.declared.Cell.{Cell}
use Rattle.grid_moves.specs.Points.{estimate}
use Rattle.best_first.specs.declared.node.Node.{Node}
use Rattle.best_first.specs.Trace.{node_cell, rank_left, IsBack, stops, goes, HasBack, IsOnTheWay}
use Rattle.best_first.proofs.Mirrors.{some_node}

module _ (goal : Cell) (nodes : List Node) where
  -- elsewhere than at the start the way back goes on with the parent's
  pub record Further (id : ℕ) (n : Node) (cells : List Cell) (cost : Cost) : Type 0 where
    pub parent : Node
    pub parent_is : slice_get nodes n.parent ≡ Some parent
    pub less : rank_left goal parent < rank_left goal n
    pub rest : List Cell
    pub left : Cost
    pub rest_is_back : IsBack goal nodes n.parent rest left
    pub cells_are : cells ≡ node_cell n ∷ rest
    pub cost_is : cost ≡ add_costs left (estimate (node_cell parent) (node_cell n))

  pub further : (id : ℕ) (n : Node) (cells : List Cell) (cost : Cost) → IsBack goal nodes id cells cost
      → id ≢ 0 → slice_get nodes id ≡ Some n → Further id n cells cost
  further id n cells cost h1 h2 h3 = grind (arith, some_node)

  -- a way back leads from a node
  pub has_node : (id : ℕ) (cells : List Cell) (cost : Cost) → IsBack goal nodes id cells cost
      → (n : Node) × (slice_get nodes id ≡ Some n)
  has_node id cells cost (stops i m z g) = (m, g)
  has_node id cells cost (goes i m p rest c nz g l f b) = (m, g)

  module _ (first : ℕ) where
    pub on_the_way : HasBack goal nodes first → IsOnTheWay goal nodes first [] no_cost first
    on_the_way h = grind (arith, same_cost)

    -- one cell more, as it is read
    pub step_back : (points later : List Cell) (cost after : Cost) (id : ℕ) (n p : Node) (cell before : Cell)
        → IsOnTheWay goal nodes first points cost id → id ≢ 0 → slice_get nodes id ≡ Some n
        → slice_get nodes n.parent ≡ Some p → cell ≡ node_cell n → before ≡ node_cell p
        → later ≡ points ++ cell ∷ [] → after ≡ add_costs cost (estimate before cell)
        → IsOnTheWay goal nodes first later after n.parent
    step_back points later cost after id n p cell before w ne h g c b l a =
        grind (arith, nat_tests, common_steps, further, some_node)
