-- Right replies to a query.
use Rattle.std.specs.Prelude.{◌≡◌, ◌&&◌, Bool, true, false, ◌⊎◌, refl, List, ◌∷◌, Some}
use Rattle.root2_cost.specs.declared.Cost.{Cost}
use Rattle.grid_moves.specs.declared.Cell.{Cell}
use Rattle.grid_moves.specs.declared.Ground.TheVariants.{Blocked}
use Rattle.grid_moves.specs.Grid.{GridData}
use Rattle.grid_moves.specs.Layers.{Layers, in_one_layer, is_free_ground, is_on_map, layers_with, query_grid}
use Rattle.grid_moves.specs.Layers.{shore}
use Rattle.grid_moves.specs.Walk.{IsWalk, IsLeastWalk, NoWalk, cost_of}
use Rattle.grid_moves.specs.Points.{unfolding_of}

-- the points unfold to a walk from s to t, and the cost is that walk's
pub record StandsForWalk (g : GridData) (s t : Cell) (points : List Cell) (cost : Cost) : Type 0 where
  pub cells : List Cell
  pub unfolds : unfolding_of points ≡ Some (s ∷ cells)
  pub walk : IsWalk g s t cells
  pub priced : cost_of (s ∷ cells) ≡ cost

-- the points unfold to a least walk from s to t, and the cost is that walk's
pub record StandsForLeast (g : GridData) (s t : Cell) (points : List Cell) (cost : Cost) : Type 0 where
  pub cells : List Cell
  pub unfolds : unfolding_of points ≡ Some (s ∷ cells)
  pub least : IsLeastWalk g s t cells
  pub priced : cost_of (s ∷ cells) ≡ cost

-- both ends of a query are land or water
abbrev pub are_free_ends : Layers → Cell → Cell → Bool
are_free_ends ls s t = is_free_ground ls s && is_free_ground ls t

-- what a query is answered
pub data Answer : Type 0 where
  outside : Answer
  blocked : Answer
  none : Answer
  walk : List Cell → Cost → Answer

-- the answer to a query from s to t is right: outside where an end lies outside, else blocked where an
-- end is neither land nor water, else none where the ends lie in different layers or no walk exists on the
-- grid of the query, else points and cost of a least walk on that grid
abbrev pub IsRight : Layers → Cell → Cell → Answer → Type 0
IsRight ls s t outside = (is_on_map ls s && is_on_map ls t) ≡ false
IsRight ls s t blocked = ((is_on_map ls s && is_on_map ls t) ≡ true) × (are_free_ends ls s t ≡ false)
IsRight ls s t none = (are_free_ends ls s t ≡ true)
    × ((in_one_layer ls s t ≡ false) ⊎ NoWalk (query_grid ls s) s t)
IsRight ls s t (walk points cost) =
    (in_one_layer ls s t ≡ true) × StandsForLeast (query_grid ls s) s t points cost

-- worked rows on the map `.WW/.WW`: outside it, and where an end was blocked
pub off_the_shore : IsRight shore (record { x = 3; y = 0 }) (record { x = 1; y = 0 }) outside
off_the_shore = refl

pub onto_a_block : IsRight (layers_with shore (record { x = 2; y = 0 }) Blocked) (record { x = 2; y = 0 })
    (record { x = 0; y = 0 }) blocked
onto_a_block = (refl, refl)
