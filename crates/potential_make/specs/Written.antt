-- The text of a certificate.
use Rattle.std.specs.Prelude.{◌≡◌, ℕ, List, [], ◌∷◌, ◌++◌, codes, decimal, refl}
use Rattle.std.specs.Fmt.{digits}
use Rattle.root2_cost.specs.declared.Cost.{Cost}
use Rattle.grid_moves.specs.declared.Cell.{Cell}
pub use Rattle.cell_lines.specs.Cells.{point_text, texts_of}
use Rattle.plain_search.specs.declared.lists.Listed.{Listed}
use Rattle.plain_search.specs.declared.lists.Listed.TheVariants.{Found, None}
use Rattle.potential_check.specs.declared.certificate.Claim.{Claim}
use Rattle.potential_check.specs.declared.certificate.Claim.TheVariants.{Least, NoWalk}

-- a number behind a space
abbrev pub number_text : ℕ → List ℕ
number_text n = codes " " ++ decimal n

-- a line of a word and numbers
abbrev pub line_text : List ℕ → List ℕ → List ℕ
line_text word numbers = word ++ texts_of number_text numbers ++ codes "\n"

-- the line of start and goal
abbrev pub ends_text : Cell → Cell → List ℕ
ends_text s t = line_text (codes "ends") (s.x ∷ s.y ∷ t.x ∷ t.y ∷ [])

-- the lines of the version, the sides and the ends
abbrev pub head_text : ℕ → ℕ → Cell → Cell → List ℕ
head_text width height s t =
    codes "jps-cert 1\n" ++ line_text (codes "size") (width ∷ height ∷ []) ++ ends_text s t

-- the line of the points
abbrev pub points_text : List Cell → List ℕ
points_text points = codes "points" ++ texts_of point_text points ++ codes "\n"

-- the line of the cost, and that of the points
abbrev pub least_text : Cost → List Cell → List ℕ
least_text cost points = line_text (codes "least") (cost.a ∷ cost.b ∷ []) ++ points_text points

-- the line of a cell and its value
abbrev pub value_text : (Cell × Cost) → List ℕ
value_text entry = line_text (codes "value") (entry.0.x ∷ entry.0.y ∷ entry.1.a ∷ entry.1.b ∷ [])

-- the line of a listed cell
abbrev pub member_text : Cell → List ℕ
member_text c = line_text (codes "in") (c.x ∷ c.y ∷ [])

-- the lines of a claim
abbrev pub claim_text : Claim → List ℕ
claim_text (Least cost points values) = least_text cost points ++ texts_of value_text values
claim_text (NoWalk cells) = codes "none\n" ++ texts_of member_text cells

-- the text of a certificate: no number has leading zeros, a line feed ends each line, and nothing follows
-- `end`
abbrev pub certificate_text : ℕ → ℕ → Cell → Cell → Claim → List ℕ
certificate_text width height s t claim = head_text width height s t ++ claim_text claim ++ codes "end\n"

-- the claim of what a search found: with its points and its closed or its reached cells
abbrev pub claim_of : Listed → Claim
claim_of (Found points cost closed taken) = Least cost points closed
claim_of (None reached taken) = NoWalk reached

-- round the pillar of `.../.@./...`, from the upper left to the lower right
pub round_the_pillar : certificate_text 3 3 (record { x = 0; y = 0 }) (record { x = 2; y = 2 })
    (Least (record { a = 4; b = 0 })
    (record { x = 0; y = 0 } ∷ record { x = 2; y = 0 } ∷ record { x = 2; y = 2 } ∷ [])
    ((record { x = 0; y = 0 }, record { a = 0; b = 0 }) ∷ (record { x = 1; y = 0 }, record { a = 1; b = 0 })
    ∷ []))
    ≡ codes "jps-cert 1\nsize 3 3\nends 0 0 2 2\nleast 4 0\npoints 0,0 2,0 2,2\nvalue 0 0 0 0\nvalue 1 0 1 0\nend\n"
unfolding digits
round_the_pillar = refl
