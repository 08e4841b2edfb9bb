-- First moves of least walks.
use Rattle.std.specs.Prelude.{◌≡◌, ℕ, ◌≤◌, ◌⊎◌, true, codes, Option, Some, None, refl}
use Rattle.std.specs.List.{find}
use Rattle.grid_moves.specs.declared.Cell.{Cell}
use Rattle.grid_moves.specs.declared.Corner.TheVariants.{Never}
use Rattle.grid_moves.specs.declared.Dir.{Dir}
use Rattle.grid_moves.specs.declared.Dir.TheVariants.{E}
use Rattle.grid_moves.specs.Grid.{GridData, grid_of, is_free}
use Rattle.grid_moves.specs.Move.{all_dirs, dir_number}
use Rattle.grid_moves.specs.Walk.{NoWalk}
use Rattle.cost_waves.specs.Begin.{Begins}
use Rattle.cost_waves.specs.Stored.{has_dir}
use Rattle.plain_search.specs.Costs.{begins, least_cost}
use Rattle.plain_search.specs.One.{IsTheOne}

-- The first move from s to t: the direction of least number with which some least walk from s to t begins.
-- There is none exactly where t is s or no walk leads from s to t, as where an end is blocked.
abbrev pub IsFirstMove : GridData → Cell → Cell → Option Dir → Type 0
IsFirstMove g s t None = (s ≡ t) ⊎ NoWalk g s t
IsFirstMove g s t (Some d) = Begins g s t d × ((e : Dir) → Begins g s t e → dir_number d ≤ dir_number e)

-- the first direction with which some least walk begins
abbrev pub first_move : GridData → Cell → Cell → Option Dir
first_move g s t = find (begins g s t) all_dirs

-- from a free cell to each cell this is the first move, and nothing else is
abbrev pub FirstMovesAre : (GridData → Cell → Cell → Option Dir) → Type 0
FirstMovesAre first =
    (g : GridData) (s t : Cell) → is_free g s ≡ true → IsTheOne (IsFirstMove g s t) (first g s t)

-- the direction of least number in a byte of directions
abbrev pub first_in : ℕ → Option Dir
first_in byte = find (has_dir byte) all_dirs

-- of east, south and north-west, east comes first
pub east_first : first_in 148 ≡ Some E
east_first = refl

pub nothing_first : first_in 0 ≡ None
nothing_first = refl

-- on the map `...` the first move from left to right is to the right, and none leads on where the goal is
pub to_the_right : first_move (grid_of 3 1 (codes "...") Never) (record { x = 0; y = 0 })
    (record { x = 2; y = 0 }) ≡ Some E
unfolding begins least_cost
to_the_right = refl

pub none_at_the_goal : first_move (grid_of 3 1 (codes "...") Never) (record { x = 1; y = 0 })
    (record { x = 1; y = 0 }) ≡ None
unfolding begins least_cost
none_at_the_goal = refl
