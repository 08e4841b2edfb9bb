-- The boxes of a grid, and what the boxed search answers, as functions.
use Rattle.std.specs.Prelude.{◌≡◌, ℕ, zero, suc, Bool, true, refl, codes, Option, Some, None, if◌then◌else◌}
use Rattle.grid_moves.specs.declared.Cell.{Cell}
use Rattle.grid_moves.specs.declared.Corner.TheVariants.{Never}
use Rattle.grid_moves.specs.declared.Dir.{Dir}
use Rattle.grid_moves.specs.declared.Dir.TheVariants.{E, W}
use Rattle.grid_moves.specs.Grid.{GridData, grid_of, is_free}
use Rattle.path_points.specs.Corners.{corners}
use Rattle.best_first.specs.declared.found.Found.{Found}
use Rattle.best_first.specs.Made.{found_of}
use Rattle.plain_search.specs.Costs.{begins, least_cost}
use Rattle.plain_search.specs.One.{IsTheOne}
use Rattle.goal_boxes.specs.declared.area.Area.{Area}
use Rattle.goal_boxes.specs.Box.{IsBox, widened}
use Rattle.goal_boxes.specs.Rule.{boxed_links}

-- the rectangle, widened by those of the first x cells of row y that have a property
abbrev pub over_columns : (Cell → Bool) → ℕ → ℕ → Option Area → Option Area
over_columns has y zero box = box
over_columns has y (suc x) box =
    if has (record { x = x; y = y })
    then Some (widened (over_columns has y x box) (record { x = x; y = y }))
    else over_columns has y x box

-- the least rectangle of those in the first y rows of a map of this width, none where there are none
abbrev pub over_rows : (Cell → Bool) → ℕ → ℕ → Option Area
over_rows has width zero = None
over_rows has width (suc y) = over_columns has y width (over_rows has width y)

-- the box of u in direction d: over all cells to which some least walk from u begins
-- with a move in direction d
unfoldable pub box_of : GridData → Cell → Dir → Option Area
box_of g u d = over_rows (λ (t : Cell). begins g u t d) g.width g.height

-- of each free cell this is the box, and nothing else is
abbrev pub BoxesAre : (GridData → Cell → Dir → Option Area) → Type 0
BoxesAre box = (g : GridData) (u : Cell) (d : Dir) → is_free g u ≡ true → IsTheOne (IsBox g u d) (box g u d)

-- what the boxed run from s to t answers
unfoldable pub boxed_found : GridData → Cell → Cell → Found
boxed_found g s t = found_of g.width g.height t (boxed_links g (box_of g) t) corners s

-- worked rows on the map `...`: from the left cell the two others lie to the right, and none to the left
pub right_of_it : box_of (grid_of 3 1 (codes "...") Never) (record { x = 0; y = 0 }) E
    ≡ Some (record { x0 = 1; y0 = 0; x1 = 2; y1 = 0 })
unfolding box_of begins least_cost
right_of_it = refl

pub none_left_of_it : box_of (grid_of 3 1 (codes "...") Never) (record { x = 0; y = 0 }) W ≡ None
unfolding box_of begins least_cost
none_left_of_it = refl
