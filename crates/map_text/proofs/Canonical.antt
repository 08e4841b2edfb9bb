-- The canonical text of a map spells it.
use Rattle.std.proofs.Common.{◌≡◌, ℕ, zero, suc, ◌+◌, ◌-◌, ◌*◌, ◌^◌, ◌≤◌, Bool, true, false, List, [], ◌∷◌}
use Rattle.std.proofs.Common.{◌++◌, length, get_or, take, drop, Some, refl, ap, sym, ◌∙◌, arith}
use Rattle.std.specs.Prelude.{codes, decimal}
use Rattle.std.specs.Char.{is_ascii_digit}
use Rattle.std.specs.List.{list_all, AllByRecursion, concat}
use Rattle.std.proofs.Math.Nat.{mul-le-mul}
use Rattle.std.proofs.lemmas.Bool.{and_parts, le-leb}
use Rattle.std.proofs.lemmas.Bool.Decides.{nat_tests}
use Rattle.std.proofs.lemmas.List.{append-nil, length-append, length-drop, length-take-le, take-append-drop}
use Rattle.std.proofs.lemmas.List.Folds.{list_all-append}
use Rattle.std.proofs.lemmas.List.Sums.{AllPass-from_list_all}
use Rattle.text_line.specs.Lines.{lines_of}
use Rattle.text_line.specs.Fields.{is_blank_byte, fields_of}
use Rattle.text_line.specs.Numbers.{number_of}
use Rattle.text_line.proofs.Parts.{parts_of_one}
use Rattle.text_line.proofs.Written.{AreDigits, is_plain, lines_then, plain_digits, all_weaker, nine_digits}
use Rattle.map_text.specs.Map.{Map, IsMap, is_terrain}
use Rattle.map_text.specs.Spelling.{NamesSide, Spells}
use Rattle.map_text.specs.Writing.{text_of, rows_of, canonical_text}

-- the lines that a text was made of are its lines
lines_of_text : (lines : List (List ℕ)) → AllByRecursion (λ line. list_all is_plain line ≡ true) lines
    → lines_of (text_of lines) ≡ lines
lines_of_text [] plain = refl
lines_of_text (line ∷ lines) plain =
    grind (arith, lines_then, lines_of_text lines plain.1)

-- terrain and digits end no line
plain_terrain : (byte : ℕ) → is_terrain byte ≡ true → is_plain byte ≡ true
plain_terrain byte terrain = grind (arith, nat_tests)

filled_digit : (byte : ℕ) → is_ascii_digit byte ≡ true → is_blank_byte byte ≡ false
filled_digit byte digit = grind (arith, nat_tests)

side_digits : (side : ℕ) → side ≤ 4096 → AreDigits 9 side (decimal side)
side_digits side low = nine_digits side (omega arith)

number_of_digits : (side : ℕ) (digits : List ℕ) → AreDigits 9 side digits → number_of digits ≡ Some side
unfolding number_of
number_of_digits side digits are = grind (arith, le-leb)

fields_of_digits : (side : ℕ) (digits : List ℕ) → AreDigits 9 side digits → fields_of digits ≡ digits ∷ []
fields_of_digits side [] are = absurd (omega (arith, are.some))
fields_of_digits side (d ∷ digits) are =
    let one = parts_of_one (d ∷ digits) (λ k below. filled_digit (get_or (d ∷ digits) k 0)
    (AllPass-from_list_all is_ascii_digit (d ∷ digits) are.all k 0 below)) in
    rw one refl

height_named : (side : ℕ) (digits : List ℕ) → AreDigits 9 side digits
    → NamesSide (codes "height") side (codes "height " ++ digits)
height_named side digits are = search (arith, fields_of_digits, number_of_digits)

width_named : (side : ℕ) (digits : List ℕ) → AreDigits 9 side digits
    → NamesSide (codes "width") side (codes "width " ++ digits)
width_named side digits are = search (arith, fields_of_digits, number_of_digits)

-- the rows are the cells
length-rows_of : (height width : ℕ) (cells : List ℕ) → length (rows_of height width cells) ≡ height
length-rows_of zero width cells = refl
length-rows_of (suc height) width cells = ap suc (length-rows_of height width (drop width cells))

module _ (p : ℕ → Bool) where
  all_of_parts : (n : ℕ) (bytes : List ℕ) → list_all p bytes ≡ true
      → (list_all p (take n bytes) ≡ true) × (list_all p (drop n bytes) ≡ true)
  all_of_parts n bytes all = and_parts (list_all p (take n bytes)) (list_all p (drop n bytes))
      (sym (list_all-append p (take n bytes) (drop n bytes))
      ∙ ap (list_all p) (take-append-drop n bytes) ∙ all)

less_by_one : (height width long : ℕ) → long ≡ suc height * width
    → (width ≤ long) × (long - width ≡ height * width)
less_by_one height width long is = (omega arith, omega arith)

widths_of_rows : (height width : ℕ) (cells : List ℕ) → length cells ≡ height * width
    → AllByRecursion (λ row. length row ≡ width) (rows_of height width cells)
widths_of_rows zero width cells long = tt
widths_of_rows (suc height) width cells long =
    let less = less_by_one height width (length cells) long in (
      length-take-le width cells less.0,
      widths_of_rows height width (drop width cells) (length-drop width cells ∙ less.1),
    )

concat-rows_of : (height width : ℕ) (cells : List ℕ) → length cells ≡ height * width
    → concat (rows_of height width cells) ≡ cells
concat-rows_of zero width [] long = refl
concat-rows_of zero width (byte ∷ cells) long = absurd (omega arith)
concat-rows_of (suc height) width cells long =
    let less = less_by_one height width (length cells) long in
    ap (λ (bytes : List ℕ). take width cells ++ bytes)
    (concat-rows_of height width (drop width cells) (length-drop width cells ∙ less.1))
    ∙ take-append-drop width cells

plain_rows : (height width : ℕ) (cells : List ℕ) → list_all is_terrain cells ≡ true
    → AllByRecursion (λ line. list_all is_plain line ≡ true) (rows_of height width cells)
plain_rows zero width cells terrain = tt
plain_rows (suc height) width cells terrain =
    let parts = all_of_parts is_terrain width cells terrain in (
      all_weaker is_terrain is_plain plain_terrain (take width cells) parts.0,
      plain_rows height width (drop width cells) parts.1,
    )

pub canonical_spells : (map : Map) → IsMap map.width map.height map.cells → Spells (canonical_text map) map
unfolding canonical_text
canonical_spells map is =
    let high = side_digits map.height is.low in
    let wide = side_digits map.width is.narrow in
    let second : List ℕ = codes "height " ++ decimal map.height in
    let third : List ℕ = codes "width " ++ decimal map.width in
    let rows = rows_of map.height map.width map.cells in
    let plain_height = plain_digits (decimal map.height) high.all in
    let plain_width = plain_digits (decimal map.width) wide.all in
    let plain = plain_rows map.height map.width map.cells is.terrain in
    record {
      first = codes "type octile";
      second = second;
      third = third;
      fourth = codes "map";
      rows = rows;
      others = [];
      lines = lines_of_text (codes "type octile" ∷ second ∷ third ∷ codes "map" ∷ rows)
          (refl, (plain_height, (plain_width, (refl, plain))))
          ∙ ap (λ (all : List (List ℕ)). codes "type octile" ∷ second ∷ third ∷ codes "map" ∷ all)
          (sym (append-nil rows));
      kind = refl;
      height = height_named map.height (decimal map.height) high;
      width = width_named map.width (decimal map.width) wide;
      begins = refl;
      count = length-rows_of map.height map.width map.cells;
      widths = widths_of_rows map.height map.width map.cells is.whole;
      cells = concat-rows_of map.height map.width map.cells is.whole;
      is_map = is;
      nothing = tt;
    }

-- and it is short
length-text_of : (height width : ℕ) (cells : List ℕ) → length cells ≡ height * width
    → length (text_of (rows_of height width cells)) ≡ height * width + height
length-text_of zero width cells long = omega arith
length-text_of (suc height) width cells long =
    let less = less_by_one height width (length cells) long in
    let rest = drop width cells in
    let later = length-text_of height width rest (length-drop width cells ∙ less.1) in
    grind (
      arith,
      later,
      length-take-le width cells less.0,
      length-append (take width cells) (10 ∷ text_of (rows_of height width rest)),
    )

small_product : (height width : ℕ) → height ≤ 4096 → width ≤ 4096 → height * width ≤ 4096 * 4096
small_product height width low narrow = mul-le-mul low narrow

pub length-canonical : (map : Map) → IsMap map.width map.height map.cells
    → length (canonical_text map) ≤ 2 ^ 26
unfolding canonical_text
length-canonical map is = grind (arith, side_digits, small_product, length-text_of, length-append)
