-- The one text that is written for a map.
use Rattle.std.specs.Prelude.{◌≡◌, ℕ, zero, suc, List, [], ◌∷◌, ◌++◌, take, drop, codes, decimal, refl}
use Rattle.std.specs.Fmt.{digits}
use Rattle.map_text.specs.Map.{Map}

-- the lines in order, a line feed behind each
abbrev pub text_of : List (List ℕ) → List ℕ
text_of [] = []
text_of (line ∷ lines) = line ++ 10 ∷ text_of lines

-- the cells in so many rows of this width
abbrev pub rows_of : ℕ → ℕ → List ℕ → List (List ℕ)
rows_of zero width cells = []
rows_of (suc height) width cells = take width cells ∷ rows_of height width (drop width cells)

-- the lines of the header, whose words are parted by one space
abbrev pub header_of : ℕ → ℕ → List (List ℕ)
header_of height width = codes "type octile" ∷ (codes "height " ++ decimal height) ∷
    (codes "width " ++ decimal width) ∷ codes "map" ∷ []

-- the header and a line for each row; nothing stands after these
unfoldable pub canonical_text : Map → List ℕ
canonical_text map = text_of (header_of map.height map.width ++ rows_of map.height map.width map.cells)

-- a worked row, by computing
pub two_rows_of_three : canonical_text (record { width = 3; height = 2; cells = codes "....@." })
    ≡ codes "type octile\nheight 2\nwidth 3\nmap\n" ++ codes "...\n.@.\n"
unfolding canonical_text digits
two_rows_of_three = refl
