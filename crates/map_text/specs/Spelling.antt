-- What the text of a map looks like.
use Rattle.std.specs.Prelude.{◌≡◌, ℕ, List, [], ◌∷◌, ◌++◌, length, Some, codes}
use Rattle.std.specs.List.{AllByRecursion, concat}
use Rattle.text_line.specs.Lines.{lines_of}
use Rattle.text_line.specs.Fields.{fields_of}
use Rattle.text_line.specs.Numbers.{number_of}
use Rattle.map_text.specs.Map.{Map, IsMap}

-- the fields of a line are the word and a number of this value
abbrev pub NamesSide : List ℕ → ℕ → List ℕ → Type 0
NamesSide word side line =
    (number : List ℕ) × (fields_of line ≡ word ∷ number ∷ []) × (number_of number ≡ Some side)

-- four header lines, a line for each row of cells from the top, and empty lines only after these
pub record Spells (text : List ℕ) (map : Map) : Type 0 where
  pub first : List ℕ
  pub second : List ℕ
  pub third : List ℕ
  pub fourth : List ℕ
  pub rows : List (List ℕ)
  pub others : List (List ℕ)
  pub lines : lines_of text ≡ first ∷ second ∷ third ∷ fourth ∷ (rows ++ others)
  pub kind : fields_of first ≡ codes "type" ∷ codes "octile" ∷ []
  pub height : NamesSide (codes "height") map.height second
  pub width : NamesSide (codes "width") map.width third
  pub begins : fields_of fourth ≡ codes "map" ∷ []
  pub count : length rows ≡ map.height
  pub widths : AllByRecursion (λ row. length row ≡ map.width) rows
  pub cells : concat rows ≡ map.cells
  pub is_map : IsMap map.width map.height map.cells
  pub nothing : AllByRecursion (λ line. line ≡ []) others
