-- Numbers and cells that words of a text spell.
use Rattle.std.specs.Prelude.{◌≡◌, ℕ, ◌==◌, List, [], ◌∷◌, Option, Some, None, if◌then◌else◌, codes, refl}
use Rattle.std.specs.Borrow.{Bor}
use Rattle.std.specs.List.{slice_split}
use Rattle.std.specs.Option.{option_and_then, option_map}
use Rattle.grid_moves.specs.declared.Cell.{Cell}
use Rattle.text_line.specs.Fields.{is_nothing}
use Rattle.text_line.specs.Numbers.{is_number, value_of}

-- the words of a text that is cut at each of these bytes
abbrev pub parts : ℕ → List ℕ → List (List ℕ)
parts byte text = slice_split (λ b. b == byte) text

-- those of what stands behind such a byte, where there is one
abbrev pub parts_behind : ℕ → Option (Bor (List ℕ)) → List (List ℕ)
parts_behind byte None = []
parts_behind byte (Some rest) = parts byte rest.now

-- the number of 1 to `most` digits that the first word spells, and the words behind it
abbrev pub first_number : ℕ → List (List ℕ) → Option (ℕ × List (List ℕ))
first_number most [] = None
first_number most (word ∷ words) = if is_number most word then Some (value_of word, words) else None

-- the same of the first two words
abbrev pub first_two : ℕ → List (List ℕ) → Option ((ℕ × ℕ) × List (List ℕ))
first_two most words =
    option_and_then (λ m. option_map (λ n. ((m.0, n.0), n.1)) (first_number most m.1)) (first_number most
    words)

-- the numbers that two words spell, behind which no word stands
abbrev pub two_numbers : ℕ → List (List ℕ) → Option (ℕ × ℕ)
two_numbers most words =
    option_and_then (λ two. if is_nothing two.1 then Some two.0 else None) (first_two most words)

-- the cell of this column and row
abbrev pub cell_of : (ℕ × ℕ) → Cell
cell_of place = record { x = place.0; y = place.1 }

-- the cell that a word `X,Y` spells, with a column and a row of 1 to 4 digits; any other word spells none
unfoldable pub point_of : List ℕ → Option Cell
point_of word = option_map cell_of (two_numbers 4 (parts 44 word))

-- the points of words that each spell one
abbrev pub points_in : List (List ℕ) → Option (List Cell)
points_in [] = Some []
points_in (word ∷ words) =
    option_and_then (λ p. option_map (λ points. p ∷ points) (points_in words)) (point_of word)

-- worked rows: leading zeros count as digits
pub leading_zeros : point_of (codes "0012,4095") ≡ Some (record { x = 12; y = 4095 })
unfolding point_of
leading_zeros = refl

pub five_digits : point_of (codes "00012,5") ≡ None
unfolding point_of
five_digits = refl

pub two_commas : point_of (codes "1,2,3") ≡ None
unfolding point_of
two_commas = refl

pub no_row : point_of (codes "1,") ≡ None
unfolding point_of
no_row = refl
