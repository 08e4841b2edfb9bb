-- Laws of nearest cells.
use Rattle.std.specs.Prelude.{◌≡◌, ◌↔◌, Bool, IsTrue, true}
use Rattle.grid_moves.specs.declared.Cell.{Cell}
use Rattle.grid_moves.specs.Grid.{GridData, is_free}
use Rattle.joined_cells.specs.Joined.{IsJoined}
use Rattle.nearest_cell.specs.Nearest.{IsNearest, nearest_of}

-- there is one at most
abbrev pub NearestIsOne : Type 0
NearestIsOne = (g : GridData) (s goal c d : Cell) → IsNearest g s goal c → IsNearest g s goal d → c ≡ d

-- where a walk leads to the goal it is the goal
abbrev pub NearestIsGoal : Type 0
NearestIsGoal = (g : GridData) (s goal c : Cell) → IsJoined g s goal → IsNearest g s goal c → c ≡ goal

-- from a free start it is the cell that `nearest_of` gives, where the test says exactly where walks lead
abbrev pub NearestOfIsNearest : Type 0
NearestOfIsNearest = (leads : Cell → Bool) (g : GridData) (s goal : Cell)
    → ((c : Cell) → IsTrue (leads c) ↔ IsJoined g s c) → is_free g s ≡ true
    → IsNearest g s goal (nearest_of leads g s goal)
