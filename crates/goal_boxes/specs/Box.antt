-- The box of a cell and a direction. Geometric containers after Wagner and Willhalm (2003).
use Rattle.std.specs.Prelude.{◌≡◌, ◌≤◌, Bool, true, false, nat_le, nat_lt, ◌&&◌, Option, Some, None, refl}
use Rattle.std.specs.Prelude.{if◌then◌else◌, slice_index_or}
use Rattle.grid_moves.specs.declared.Cell.{Cell}
use Rattle.grid_moves.specs.declared.Dir.{Dir}
use Rattle.grid_moves.specs.Grid.{GridData, is_free}
use Rattle.grid_moves.specs.Move.{dir_number}
use Rattle.cost_waves.specs.Begin.{Begins}
use Rattle.goal_boxes.specs.declared.area.Area.{Area}
use Rattle.goal_boxes.specs.declared.around.CellBoxes.{CellBoxes}

-- the cell lies in the rectangle; columns and rows of both corners belong to it
abbrev pub holds : Area → Cell → Bool
holds a c = nat_le a.x0 c.x && nat_le c.x a.x1 && nat_le a.y0 c.y && nat_le c.y a.y1

-- the least rectangle that holds a rectangle and a cell
abbrev pub with_cell : Area → Cell → Area
with_cell a c = record {
  x0 = if nat_lt c.x a.x0 then c.x else a.x0;
  y0 = if nat_lt c.y a.y0 then c.y else a.y0;
  x1 = if nat_lt a.x1 c.x then c.x else a.x1;
  y1 = if nat_lt a.y1 c.y then c.y else a.y1;
}

-- the same where there may be none yet
abbrev pub widened : Option Area → Cell → Area
widened None c = record { x0 = c.x; y0 = c.y; x1 = c.x; y1 = c.y }
widened (Some a) c = with_cell a c

-- one rectangle lies within another
pub record IsWithin (a b : Area) : Type 0 where
  pub left : b.x0 ≤ a.x0
  pub above : b.y0 ≤ a.y0
  pub right : a.x1 ≤ b.x1
  pub below : a.y1 ≤ b.y1

-- the least rectangle that holds every cell of a kind, of which there is one: it holds each, and lies within
-- each rectangle that does
pub record IsLeastArea (P : Cell → Type 0) (a : Area) : Type 0 where
  pub some : Cell
  pub is_one : P some
  pub all : (c : Cell) → P c → holds a c ≡ true
  pub least : (b : Area) → ((c : Cell) → P c → holds b c ≡ true) → IsWithin a b

-- the same, or nothing exactly where there is no cell of this kind
abbrev pub IsAreaOf : (Cell → Type 0) → Option Area → Type 0
IsAreaOf P None = (c : Cell) → ¬ P c
IsAreaOf P (Some a) = IsLeastArea P a

-- the box of u in direction d: the least rectangle that holds every cell to which some least walk from u
-- begins with a move in direction d, if there is one
abbrev pub IsBox : GridData → Cell → Dir → Option Area → Type 0
IsBox g u d box = IsAreaOf (λ t. Begins g u t d) box

-- of eight boxes, the one in a direction
abbrev pub box_in : CellBoxes → Dir → Option Area
box_in b d = slice_index_or b.areas (dir_number d) None

-- these are the boxes of u
abbrev pub AreBoxes : GridData → Cell → CellBoxes → Type 0
AreBoxes g u b = (d : Dir) → IsBox g u d (box_in b d)

-- what tells a box, or none, for each cell and direction
abbrev pub BoxTeller : Type 0
BoxTeller = Cell → Dir → Option Area

-- it tells the boxes of the grid's free cells. There is one least rectangle, so all that do so tell the same
-- of these
pub record TellsBoxes (g : GridData) (box : BoxTeller) : Type 0 where
  pub boxes : (c : Cell) → is_free g c ≡ true → (d : Dir) → IsBox g c d (box c d)

-- a rectangle holds its corners, and no cell beyond
pub corner_held : holds (record { x0 = 1; y0 = 0; x1 = 2; y1 = 1 }) (record { x = 2; y = 1 }) ≡ true
corner_held = refl

pub beyond_not_held : holds (record { x0 = 1; y0 = 0; x1 = 2; y1 = 1 }) (record { x = 3; y = 1 }) ≡ false
beyond_not_held = refl
