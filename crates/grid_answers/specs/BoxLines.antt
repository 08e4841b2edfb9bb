-- What `boxes` prints.
use Rattle.std.specs.Prelude.{◌≡◌, ℕ, List, ◌++◌, codes, decimal, Option, Some, None, refl}
use Rattle.goal_boxes.specs.declared.area.Area.{Area}
use Rattle.goal_boxes.specs.Made.{box_of}
use Rattle.grid_moves.specs.declared.Cell.{Cell}
use Rattle.grid_moves.specs.declared.Dir.{Dir}
use Rattle.grid_moves.specs.declared.Dir.TheVariants.{SE, NW}
use Rattle.grid_moves.specs.Layers.{Layers}
use Rattle.grid_moves.specs.Move.{all_dirs}
use Rattle.cell_lines.specs.Cells.{dir_text, texts_of}
use Rattle.grid_answers.specs.OfCell.{of_cell}

-- a box by its least column and row and its greatest column and row, or that there is none
abbrev pub area_text : Option Area → List ℕ
area_text None = codes "none"
area_text (Some a) = decimal a.x0 ++ codes " " ++ decimal a.y0 ++ codes " " ++ decimal a.x1 ++ codes " "
    ++ decimal a.y1

-- the line of the box in a direction
abbrev pub box_line : (Dir → Option Area) → Dir → List ℕ
box_line box d = codes "box " ++ dir_text d ++ codes " " ++ area_text (box d) ++ codes "\n"

-- eight lines, in the order of the directions' numbers
abbrev pub boxes_text : (Dir → Option Area) → List ℕ
boxes_text box = texts_of (box_line box) all_dirs

-- what is printed of the boxes of s: those on the grid of the cell, or why there are none
unfoldable pub boxes_answer : Layers → Cell → List ℕ
boxes_answer ls s = of_cell ls s (λ line. line) (λ g. boxes_text (box_of g s))

-- the box to the lower right of the upper left cell of an open map of three columns and three rows
abbrev corner_box : Dir → Option Area
corner_box SE = Some (record { x0 = 1; y0 = 1; x1 = 2; y1 = 2 })
corner_box d = None

pub lower_right : box_line corner_box SE
    ≡ codes "box SE " ++ decimal 1 ++ codes " " ++ decimal 1 ++ codes " " ++ decimal 2 ++ codes " "
    ++ decimal 2
    ++ codes "\n"
lower_right = refl

pub no_box : box_line corner_box NW ≡ codes "box NW none\n"
no_box = refl
