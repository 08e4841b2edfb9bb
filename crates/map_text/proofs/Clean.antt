-- Lines that break nothing spell a map.
use Rattle.std.proofs.lemmas.Bool.Decides.{nat_tests}
use Rattle.std.proofs.Common.{◌≡◌, ℕ, suc, ◌+◌, ◌*◌, ◌<◌, ◌≤◌, List, [], ◌∷◌, length, take, drop, Some, None}
use Rattle.std.proofs.Common.{refl, sym, ap, subst, ◌∙◌, arith}
use Rattle.std.specs.Prelude.{slice_get, codes}
use Rattle.std.specs.List.{AllByRecursion, concat}
use Rattle.std.proofs.lemmas.Bool.{cases_lt, lt-ltb, le-ltb}
use Rattle.std.proofs.lemmas.List.{length-take-le, take-append-drop}
use Rattle.std.proofs.lemmas.Option.{slice_get_past, slice_get_within, same_Some}
use Rattle.text_line.specs.Lines.{lines_of}
use Rattle.text_line.specs.Fields.{fields_of}
use Rattle.map_text.specs.declared.fault.MapFault.{MapFault}
use Rattle.map_text.specs.Map.{IsMap}
use Rattle.map_text.specs.Spelling.{Spells}
use Rattle.map_text.specs.Faults.{fault_at, row_fault, height_of, width_of, map_on, CleanBefore}
use Rattle.map_text.proofs.Sides.{same_words, words_right, side_right, NamesGoodSide}
use Rattle.map_text.proofs.Rows.{IsRow, row_right, after_right, each_right, terrain_of_rows, length_of_rows}
use Rattle.map_text.proofs.Rows.{slice_get-take, slice_get-drop}

-- no line breaks the grammar, and none is missing
abbrev pub Clean : List (List ℕ) → Type 0
Clean lines = CleanBefore lines (length lines + 1)

each_weaker : (P Q : List ℕ → Type 0) → ((line : List ℕ) → P line → Q line) → (lines : List (List ℕ))
    → AllByRecursion P lines → AllByRecursion Q lines
each_weaker P Q weaker [] all = tt
each_weaker P Q weaker (line ∷ lines) all = (weaker line all.0, each_weaker P Q weaker lines all.1)

-- Below, the text has four lines and others.
module _ (a b c d : List ℕ) (tail : List (List ℕ)) where
  abbrev all_lines : List (List ℕ)
  all_lines = a ∷ b ∷ c ∷ d ∷ tail

  module _ (clean : Clean (a ∷ b ∷ c ∷ d ∷ tail)) where
    row_at : (k : ℕ) → k < height_of all_lines → k ≤ length tail
        → row_fault (k + 5) (width_of all_lines) (slice_get tail k) ≡ None
    row_at k inside there =
        rw (lt-ltb k (height_of all_lines) inside) at (clean (suc (suc (suc (suc k)))) (omega arith))

    -- no row is missing
    pub tall : height_of all_lines ≤ length tail
    tall = grind (arith, cases_lt, slice_get_past, row_at)

    rows_right : AllByRecursion (IsRow (width_of all_lines)) (take (height_of all_lines) tail)
    rows_right = each_right (IsRow (width_of all_lines)) (take (height_of all_lines) tail) (λ k line at.
        let parts = slice_get-take (height_of all_lines) k tail line at in
        let inside = slice_get_within tail k line parts.1 in
        let right =
        row_right (k + 5) (width_of all_lines) (slice_get tail k) (row_at k parts.0 (omega arith)) in
        subst (IsRow (width_of all_lines)) (same_Some right.0 line (sym right.1 ∙ parts.1)) right.2)

    nothing_after : AllByRecursion (λ line. line ≡ []) (drop (height_of all_lines) tail)
    nothing_after = each_right (λ line. line ≡ []) (drop (height_of all_lines) tail) (λ k line at.
        let there : slice_get tail (height_of all_lines + k) ≡ Some line =
        sym (slice_get-drop (height_of all_lines) k tail) ∙ at in
        let inside = slice_get_within tail (height_of all_lines + k) line there in
        let after : height_of all_lines ≤ height_of all_lines + k = omega arith in
        let here = rw (le-ltb (height_of all_lines + k) (height_of all_lines) after, there)
        at (clean (suc (suc (suc (suc (height_of all_lines + k))))) (omega arith)) in
        after_right (height_of all_lines + k + 5) line here)

    named_height : NamesGoodSide (codes "height") (fields_of b) (height_of all_lines)
    named_height = side_right 2 (codes "height") (fields_of b) (clean 1 (omega arith))

    named_width : NamesGoodSide (codes "width") (fields_of c) (width_of all_lines)
    named_width = side_right 3 (codes "width") (fields_of c) (clean 2 (omega arith))

    count_of_rows : length (take (height_of all_lines) tail) ≡ height_of all_lines
    count_of_rows = length-take-le (height_of all_lines) tail tall

    right_map : IsMap (width_of all_lines) (height_of all_lines) (concat (take (height_of all_lines) tail))
    right_map = record {
      wide = named_width.least;
      narrow = named_width.most;
      high = named_height.least;
      low = named_height.most;
      whole = length_of_rows (width_of all_lines) (take (height_of all_lines) tail) rows_right
          ∙ ap (λ (n : ℕ). n * width_of all_lines) count_of_rows;
      terrain = terrain_of_rows (width_of all_lines) (take (height_of all_lines) tail) rows_right;
    }

    spelled : (text : List ℕ) → lines_of text ≡ all_lines → Spells text (map_on all_lines)
    spelled text are = record {
      first = a;
      second = b;
      third = c;
      fourth = d;
      rows = take (height_of all_lines) tail;
      others = drop (height_of all_lines) tail;
      lines = are ∙ ap (λ (rest : List (List ℕ)). a ∷ b ∷ c ∷ d ∷ rest)
          (sym (take-append-drop (height_of all_lines) tail));
      kind = same_words (fields_of a) (codes "type" ∷ codes "octile" ∷ [])
          (words_right 1 _ (clean 0 (omega arith)));
      height = (named_height.digits, named_height.are, named_height.value);
      width = (named_width.digits, named_width.are, named_width.value);
      begins = same_words (fields_of d) (codes "map" ∷ []) (words_right 4 _ (clean 3 (omega arith)));
      count = count_of_rows;
      widths = each_weaker (IsRow (width_of all_lines)) (λ row. length row ≡ width_of all_lines)
          (λ row is. is.long) (take (height_of all_lines) tail) rows_right;
      cells = refl;
      is_map = right_map;
      nothing = nothing_after;
    }

-- the map on lines that break nothing
pub clean_map : (lines : List (List ℕ)) → Clean lines
    → IsMap (width_of lines) (height_of lines) (map_on lines).cells
clean_map [] clean = absurd (cc (clean 0 (omega arith)))
clean_map (a ∷ []) clean = absurd (cc (clean 1 (omega arith)))
clean_map (a ∷ b ∷ []) clean = absurd (cc (clean 2 (omega arith)))
clean_map (a ∷ b ∷ c ∷ []) clean = absurd (cc (clean 3 (omega arith)))
clean_map (a ∷ b ∷ c ∷ d ∷ tail) clean = right_map a b c d tail clean

-- a text whose lines break nothing spells the map on them
pub clean_spells : (text : List ℕ) (lines : List (List ℕ)) → lines_of text ≡ lines → Clean lines
    → Spells text (map_on lines)
clean_spells text [] are clean = absurd (cc (clean 0 (omega arith)))
clean_spells text (a ∷ []) are clean = absurd (cc (clean 1 (omega arith)))
clean_spells text (a ∷ b ∷ []) are clean = absurd (cc (clean 2 (omega arith)))
clean_spells text (a ∷ b ∷ c ∷ []) are clean = absurd (cc (clean 3 (omega arith)))
clean_spells text (a ∷ b ∷ c ∷ d ∷ tail) are clean = spelled a b c d tail clean text are

-- behind the line after the last nothing breaks the grammar
past_all : (lines : List (List ℕ)) (place : ℕ) (fault : MapFault) → length lines < place → Clean lines
    → fault_at lines place ≡ Some fault → ⊥
past_all lines place fault h i j = grind (arith, nat_tests, tall, le-ltb, slice_get_past)

-- the first broken line is one of the lines, or the one after the last
pub broken_inside : (lines : List (List ℕ)) (place : ℕ) (fault : MapFault) → CleanBefore lines place
    → fault_at lines place ≡ Some fault → place ≤ length lines
broken_inside lines place fault before broken = grind (arith, cases_lt, past_all)
