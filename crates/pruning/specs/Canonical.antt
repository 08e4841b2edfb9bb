-- Canonical walks: those that pruning keeps.
use Rattle.std.specs.Prelude.{◌≡◌, ⊤, IsTrue, List, [], ◌∷◌, Some}
use Rattle.grid_moves.specs.declared.Cell.{Cell}
use Rattle.grid_moves.specs.declared.Dir.{Dir}
use Rattle.grid_moves.specs.Grid.{GridData}
use Rattle.grid_moves.specs.Move.{ahead}
use Rattle.grid_moves.specs.Walk.{IsWalk}
use Rattle.pruning.specs.declared.Arrival.{Arrival}
use Rattle.pruning.specs.declared.Arrival.TheVariants.{Start, By}
use Rattle.pruning.specs.Allowed.{is_allowed}

-- v is the cell ahead of u in d, and d is allowed at u after this arrival
pub record IsAllowedMove (g : GridData) (by : Arrival) (u v : Cell) (d : Dir) : Type 0 where
  pub leads : ahead d u ≡ Some v
  pub allowed : IsTrue (is_allowed g u by d)

-- from u, reached by this arrival, each move's direction is allowed at its cell after the move before it
abbrev pub FollowsRule : GridData → Arrival → Cell → List Cell → Type 0
FollowsRule g by u [] = ⊤
FollowsRule g by u (v ∷ cells) = (d : Dir) × IsAllowedMove g by u v d × FollowsRule g (By d) v cells

-- s followed by these cells is a walk to t that pruning keeps
pub record IsCanonicalWalk (g : GridData) (s t : Cell) (cells : List Cell) : Type 0 where
  pub walk : IsWalk g s t cells
  pub pruned : FollowsRule g Start s cells
