-- The room of a space, for nodes and for records.
use Rattle.std.proofs.lemmas.Grind.{common_steps}
use Rattle.std.proofs.Common.{◌≡◌, ℕ, ◌+◌, ◌≤◌, length, List, [], ◌∷◌, ◌++◌, arith}
use Rattle.best_first.specs.declared.node.Node.{Node}
use Rattle.best_first.specs.declared.state.Layout.{Layout}
use Rattle.best_first.specs.declared.state.Layout.TheVariants.{ByCell, ByArrival}
use Rattle.best_first.specs.Space.{HasRoom, HasRoomFor}

-- it stays where the nodes and the memory for more are no less together, and that for records is no less
pub room_stays : {layout : Layout} {room nodes spare capacity nodes_after spare_after capacity_after : ℕ}
    → HasRoom layout room nodes spare capacity → nodes + spare ≤ nodes_after + spare_after
    → capacity ≤ capacity_after → HasRoom layout room nodes_after spare_after capacity_after
room_stays {layout = ByCell} h n c = grind arith
room_stays {layout = ByArrival} h n c = grind arith

-- no room is always there
pub no_room : (layout : Layout) (nodes spare capacity : ℕ) → HasRoom layout 0 nodes spare capacity
no_room ByCell nodes spare capacity = grind arith
no_room ByArrival nodes spare capacity = grind arith

-- where there are no more records than nodes, a node that fits has a record that fits
pub record_fits : {layout : Layout} {room nodes spare capacity : ℕ} (records : ℕ)
    → HasRoom layout room nodes spare capacity → nodes + 1 ≤ room → records ≤ nodes
    → HasRoomFor layout 1 records capacity
record_fits {layout = ByCell} records h n r = grind arith
record_fits {layout = ByArrival} records h n r = let f = h.for_records in omega arith

pub one_longer : (nodes after : List Node) (n : Node) → after ≡ nodes ++ n ∷ []
    → length after ≡ length nodes + 1
one_longer nodes after n e = rw e (longer nodes)
  where
    longer : (ns : List Node) → length (ns ++ n ∷ []) ≡ length ns + 1
    longer ns = grind (arith, common_steps)
