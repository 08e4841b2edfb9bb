-- Worked rows of the definitions, by computing.
use Rattle.std.specs.Prelude.{◌≡◌, ℕ, true, false, [], ◌∷◌, ◌++◌, Some, codes, refl}
use Rattle.std.specs.Fmt.{digits}
use Rattle.grid_moves.specs.declared.Cell.{Cell}
use Rattle.map_text.specs.Map.{Map}
use Rattle.map_text.specs.Writing.{text_of}
use Rattle.picture.specs.declared.kinds.DrawnGround.TheVariants.{Wall}
use Rattle.picture.specs.Runs.{runs_from}
use Rattle.picture.specs.Picture.{Walk, thickness, tenths_text, state_stroke, strokes_from, points_text}
use Rattle.picture.specs.Picture.{picture_of}

-- runs at both ends of a row
pub two_runs : runs_from 0 (true ∷ true ∷ false ∷ false ∷ true ∷ [])
    ≡ record { from = 0; long = 2 } ∷ record { from = 4; long = 1 } ∷ []
two_runs = refl

pub whole_row : runs_from 0 (true ∷ true ∷ true ∷ []) ≡ record { from = 0; long = 3 } ∷ []
whole_row = refl

-- a run that ends a row and one that begins the next are two strokes
pub two_rows : strokes_from Wall 0 (codes ".@O" ∷ codes "@.T" ∷ []) ≡ codes "M1 0h2M0 1h1"
unfolding digits
two_rows = refl

-- the cell of number 5 on a map of width 3
pub state_of_start : state_stroke 3 53 ≡ codes "M2 1h1"
unfolding digits
state_of_start = refl

pub thin : tenths_text (thickness (record { width = 3; height = 31; cells = [] })) ≡ codes "0.4"
unfolding digits
thin = refl

pub thick : tenths_text (thickness (record { width = 512; height = 1; cells = [] })) ≡ codes "2.0"
unfolding digits
thick = refl

abbrev cell : ℕ → ℕ → Cell
cell x y = record { x = x; y = y }

pub one_point : points_text (cell 1 2 ∷ []) ≡ codes "1,2"
unfolding digits
one_point = refl

-- a small picture
abbrev small : Map
small = record { width = 4; height = 2; cells = codes "..GTS@OW" }

abbrev straight : Walk
straight = record { points = cell 0 0 ∷ cell 2 0 ∷ []; cost = record { a = 2; b = 0 } }

pub small_picture : picture_of small (cell 0 0) (cell 2 0) (Some straight) (Some (8 ∷ 17 ∷ [])) ≡ text_of
    (codes "<svg xmlns=\"http://www.w3.org/2000/svg\" viewBox=\"0 0 4 2\">"
    ∷ codes "<title>walk 2 0 from 0,0 to 2,0</title>"
    ∷ codes "<rect width=\"4\" height=\"2\" fill=\"#f4f1e8\"/>"
    ∷ (codes "<path transform=\"translate(0 .5)\" shape-rendering=\"crispEdges\" "
    ++ codes "stroke=\"#c9bf8f\" d=\"M0 1h1\"/>")
    ∷ (codes "<path transform=\"translate(0 .5)\" shape-rendering=\"crispEdges\" "
    ++ codes "stroke=\"#5c8a57\" d=\"M3 0h1\"/>")
    ∷ (codes "<path transform=\"translate(0 .5)\" shape-rendering=\"crispEdges\" "
    ++ codes "stroke=\"#3b3f46\" d=\"M1 1h2\"/>")
    ∷ (codes "<path transform=\"translate(0 .5)\" shape-rendering=\"crispEdges\" "
    ++ codes "stroke=\"#8fbfe0\" d=\"M3 1h1\"/>")
    ∷ (codes "<path transform=\"translate(0 .5)\" shape-rendering=\"crispEdges\" "
    ++ codes "stroke=\"#f2b84b\" d=\"M0 0h1M1 0h1\"/>")
    ∷ (codes "<polyline transform=\"translate(.5 .5)\" fill=\"none\" stroke=\"#d1352b\" stroke-width=\"0.4\" "
    ++ codes "points=\"0,0 2,0\"/>")
    ∷ codes "<circle cx=\"0.5\" cy=\"0.5\" r=\"0.4\" fill=\"#1f6f43\"/>"
    ∷ codes "<circle cx=\"2.5\" cy=\"0.5\" r=\"0.4\" fill=\"#7b2d8b\"/>" ∷ codes "</svg>" ∷ [])
unfolding digits picture_of
small_picture = refl
