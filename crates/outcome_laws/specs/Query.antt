-- What a plain `query` prints, for who reads little: this file and what it names say it whole.
use Rattle.std.specs.Prelude.{◌≡◌, ℕ, List, [], ◌∷◌, ◌++◌, codes, decimal, Some, refl}
use Rattle.std.specs.Fmt.{digits}
use Rattle.cell_lines.specs.Cells.{point_text, texts_of}
use Rattle.grid_moves.specs.declared.Cell.{Cell}
use Rattle.grid_moves.specs.declared.Corner.TheVariants.{Never}
use Rattle.grid_moves.specs.Layers.{Layers, layers_of}
use Rattle.grid_moves.specs.Reply.{Answer, IsRight, blocked, none, outside, walk}
use Rattle.io_edge.specs.Known.{Held, Outflow, holding}
use Rattle.line_work.specs.Sending.{Wrote}
use Rattle.map_text.specs.Map.{Map}
use Rattle.map_text.specs.Spelling.{Spells}
use Rattle.text_line.specs.Numbers.{number_of}

-- the words are `query`, the name of a file, and the columns and rows of two cells
pub record AskForWalk (words : List (List ℕ)) (name : List ℕ) (s t : Cell) : Type 0 where
  pub sx : List ℕ
  pub sy : List ℕ
  pub gx : List ℕ
  pub gy : List ℕ
  pub are : words ≡ codes "query" ∷ name ∷ sx ∷ sy ∷ gx ∷ gy ∷ []
  pub start_column : number_of sx ≡ Some s.x
  pub start_row : number_of sy ≡ Some s.y
  pub goal_column : number_of gx ≡ Some t.x
  pub goal_row : number_of gy ≡ Some t.y

-- the line of an answer
abbrev pub line_of : Answer → List ℕ
line_of outside = codes "outside\n"
line_of blocked = codes "blocked\n"
line_of none = codes "none\n"
line_of (walk points cost) =
    (codes "walk " ++ decimal cost.a ++ codes " " ++ decimal cost.b ++ texts_of point_text points) ++ codes "\n"

-- what was written is the line of a right answer
pub record PrintsRight (ls : Layers) (s t : Cell) (before now : Outflow) : Type 0 where
  pub answer : Answer
  pub right : IsRight ls s t answer
  pub wrote : Wrote before now (line_of answer)

-- where the words ask for a walk on the map that a file holds, the line of a right answer was written
abbrev pub PrintsQuery : List (List ℕ) → (List ℕ → Held) → Outflow → Outflow → Type 0
PrintsQuery words holds before now = (name text : List ℕ) (m : Map) (s t : Cell) → AskForWalk words name s t
    → holds name ≡ holding text → Spells text m
    → PrintsRight (layers_of Never m.width m.height m.cells) s t before now

-- a worked row: from a cell two columns on and one row down
pub two_points : line_of
    (walk (record { x = 1; y = 1 } ∷ record { x = 2; y = 2 } ∷ []) (record { a = 0; b = 1 }))
    ≡ codes "walk 0 1 1,1 2,2\n"
unfolding digits
two_points = refl
