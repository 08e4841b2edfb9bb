-- The text of a picture, line by line.
use Rattle.std.specs.Prelude.{ℕ, ◌+◌, ◌/◌, ◌%◌, max, List, [], ◌∷◌, ◌++◌, codes, decimal, Option, Some, None}
use Rattle.root2_cost.specs.declared.Cost.{Cost}
use Rattle.grid_moves.specs.declared.Cell.{Cell}
use Rattle.cell_lines.specs.Cells as cells
pub use Rattle.cell_lines.specs.Cells.{cell_text, texts_of}
use Rattle.map_text.specs.Map.{Map}
use Rattle.map_text.specs.Writing.{rows_of, text_of}
use Rattle.picture.specs.declared.kinds.DrawnGround.{DrawnGround}
use Rattle.picture.specs.declared.kinds.DrawnGround.TheVariants.{Swamp, Trees, Wall, Water}
use Rattle.picture.specs.declared.answer.DrawnWalk as answer
use Rattle.picture.specs.Runs.{Run}
use Rattle.picture.specs.Grounds.{colour, runs_of}

-- a walk: the points that stand for it and its cost
pub record Walk : Type 0 where
  pub points : List Cell
  pub cost : Cost

-- a walk without where its points lie in memory
abbrev pub plain_walk : answer.DrawnWalk → Walk
plain_walk walk = record { points = walk.points.now; cost = walk.cost }

-- the points, parted by one space
abbrev pub points_text : List Cell → List ℕ
points_text [] = []
points_text (first ∷ points) = cell_text first ++ texts_of cells.point_text points

-- `Mx yhn`: a stroke over a run of cells of the row whose number is written so
abbrev pub stroke_over : List ℕ → Run → List ℕ
stroke_over row run = codes "M" ++ decimal run.from ++ codes " " ++ row ++ codes "h" ++ decimal run.long

-- the same for the row of this number
abbrev pub stroke_text : ℕ → Run → List ℕ
stroke_text y run = stroke_over (decimal y) run

-- the strokes over the longest runs of the ground's cells in the row of this number
abbrev pub row_strokes : DrawnGround → ℕ → List ℕ → List ℕ
row_strokes kind y row = texts_of (stroke_text y) (runs_of kind row)

-- the strokes of rows, the first of which has this number
abbrev pub strokes_from : DrawnGround → ℕ → List (List ℕ) → List ℕ
strokes_from kind y [] = []
strokes_from kind y (row ∷ rows) = row_strokes kind y row ++ strokes_from kind (y + 1) rows

-- a stroke over the cell of a state by its number, which is nine times its cell's number and its arrival
abbrev pub state_stroke : ℕ → ℕ → List ℕ
state_stroke width state =
    stroke_text ((state / 9) / width) (record { from = (state / 9) % width; long = 1 })

-- the beginning of a line of strokes
abbrev pub path_text : List ℕ → List ℕ
path_text colour =
    codes "<path transform=\"translate(0 .5)\" shape-rendering=\"crispEdges\" stroke=\"" ++ colour
    ++ codes "\" d=\""

-- the line of strokes in a colour
abbrev pub stroke_line : List ℕ → List ℕ → List ℕ
stroke_line colour strokes = path_text colour ++ strokes ++ codes "\"/>"

-- the line of a ground's strokes
abbrev pub ground_line : DrawnGround → Map → List ℕ
ground_line kind map =
    stroke_line (colour kind) (strokes_from kind 0 (rows_of map.height map.width map.cells))

-- `d.t`: a number of tenths
abbrev pub tenths_text : ℕ → List ℕ
tenths_text tenths = decimal (tenths / 10) ++ codes "." ++ decimal (tenths % 10)

-- the width of the walk and the radius of its ends, in tenths of a cell: it grows with the longer side, so
-- that the walk is seen on a large map too
abbrev pub thickness : Map → ℕ
thickness map = 4 + max map.width map.height / 32

-- a text and a number behind it
abbrev pub named_text : List ℕ → ℕ → List ℕ
named_text name n = name ++ decimal n

-- the first line
abbrev pub frame_line : Map → List ℕ
frame_line map = named_text (codes "<svg xmlns=\"http://www.w3.org/2000/svg\" viewBox=\"0 0 ") map.width
    ++ named_text (codes " ") map.height ++ codes "\">"

-- `walk a b`
abbrev pub cost_text : Cost → List ℕ
cost_text cost = codes "walk " ++ decimal cost.a ++ codes " " ++ decimal cost.b

-- what was found
abbrev pub found_text : Option Walk → List ℕ
found_text None = codes "none"
found_text (Some walk) = cost_text walk.cost

-- `sx,sy to gx,gy`
abbrev pub ends_text : Cell → Cell → List ℕ
ends_text start goal = cell_text start ++ codes " to " ++ cell_text goal

-- the title
abbrev pub title_line : Cell → Cell → Option Walk → List ℕ
title_line start goal walk =
    codes "<title>" ++ found_text walk ++ codes " from " ++ ends_text start goal ++ codes "</title>"

-- the background
abbrev pub background_line : Map → List ℕ
background_line map =
    named_text (codes "<rect width=\"") map.width ++ named_text (codes "\" height=\"") map.height
    ++ codes "\" fill=\"#f4f1e8\"/>"

-- the taken states
abbrev pub states_line : ℕ → List ℕ → List ℕ
states_line width states = stroke_line (codes "#f2b84b") (texts_of (state_stroke width) states)

-- the same, where they are shown
abbrev pub taken_lines : ℕ → Option (List ℕ) → List (List ℕ)
taken_lines width None = []
taken_lines width (Some states) = states_line width states ∷ []

-- a walk, in a width
abbrev pub walk_line : ℕ → Walk → List ℕ
walk_line tenths walk =
    codes "<polyline transform=\"translate(.5 .5)\" fill=\"none\" stroke=\"#d1352b\" stroke-width=\""
    ++ tenths_text tenths ++ codes "\" points=\"" ++ points_text walk.points ++ codes "\"/>"

-- the same, where there is one
abbrev pub walk_lines : ℕ → Option Walk → List (List ℕ)
walk_lines tenths None = []
walk_lines tenths (Some walk) = walk_line tenths walk ∷ []

-- the beginning of the line of an end, up to the whole part of its row
abbrev pub centre_text : Cell → List ℕ
centre_text c = named_text (codes "<circle cx=\"") c.x ++ named_text (codes ".5\" cy=\"") c.y

-- its radius, behind the whole part of its row
abbrev pub radius_text : ℕ → List ℕ
radius_text tenths = codes ".5\" r=\"" ++ tenths_text tenths

-- the line of an end of the walk, in a colour
abbrev pub end_line : ℕ → List ℕ → Cell → List ℕ
end_line tenths colour c =
    centre_text c ++ radius_text tenths ++ codes "\" fill=\"" ++ colour ++ codes "\"/>"

-- the lines before the grounds
abbrev pub head_lines : Map → Cell → Cell → Option Walk → List (List ℕ)
head_lines map start goal walk = frame_line map ∷ title_line start goal walk ∷ background_line map ∷ []

-- the lines of the grounds
abbrev pub ground_lines : Map → List (List ℕ)
ground_lines map =
    ground_line Swamp map ∷ ground_line Trees map ∷ ground_line Wall map ∷ ground_line Water map ∷ []

-- the lines of both ends and the last line
abbrev pub end_lines : ℕ → Cell → Cell → List (List ℕ)
end_lines tenths start goal =
    end_line tenths (codes "#1f6f43") start ∷ end_line tenths (codes "#7b2d8b") goal ∷ codes "</svg>" ∷ []

-- the lines of a picture of a map, the two ends of a query, its walk, if there is one, and its taken states,
-- if they are shown
abbrev pub picture_lines : Map → Cell → Cell → Option Walk → Option (List ℕ) → List (List ℕ)
picture_lines map start goal walk taken = head_lines map start goal walk ++ ground_lines map
    ++ taken_lines map.width taken ++ walk_lines (thickness map) walk ++ end_lines (thickness map) start goal

-- its text: each line with a line feed behind it
unfoldable pub picture_of : Map → Cell → Cell → Option Walk → Option (List ℕ) → List ℕ
picture_of map start goal walk taken = text_of (picture_lines map start goal walk taken)
