-- The lines of a text that spells a map break nothing.
use Rattle.std.proofs.Common.{◌≡◌, ℕ, zero, suc, ◌+◌, ◌-◌, ◌<◌, ◌≤◌, true, List, [], ◌∷◌, ◌++◌, length}
use Rattle.std.proofs.Common.{get_or, Option, Some, None, refl, sym, ap, ◌∙◌, arith}
use Rattle.std.specs.Prelude.{slice_get, codes, unwrap_or}
use Rattle.std.specs.List.{list_all, AllByRecursion, concat}
use Rattle.std.proofs.lemmas.Bool.{cases_lt, lt-ltb, le-ltb, and_parts}
use Rattle.std.proofs.lemmas.List.{take_at}
use Rattle.std.proofs.lemmas.List.Folds.{list_all-append}
use Rattle.std.proofs.lemmas.Option.{slice_get-get_or}
use Rattle.text_line.specs.Fields.{fields_of}
use Rattle.map_text.specs.Map.{Map, is_terrain}
use Rattle.map_text.specs.Spelling.{Spells}
use Rattle.map_text.specs.Faults.{fault_at, row_fault, side_in, after_fault, height_of, width_of, map_on}
use Rattle.map_text.proofs.Sides.{side_named, side_fault_none}
use Rattle.map_text.proofs.Rows.{IsRow, row_fine, right_at}

are_rows : (width : ℕ) (rows : List (List ℕ)) → AllByRecursion (λ row. length row ≡ width) rows
    → list_all is_terrain (concat rows) ≡ true → AllByRecursion (IsRow width) rows
are_rows width [] widths terrain = tt
are_rows width (row ∷ rows) widths terrain =
    let parts = and_parts (list_all is_terrain row) (list_all is_terrain (concat rows))
    (sym (list_all-append is_terrain row (concat rows)) ∙ terrain) in
    (record { long = widths.0; terrain = parts.0 }, are_rows width rows widths.1 parts.1)

after_fine : (number k : ℕ) (others : List (List ℕ)) → AllByRecursion (λ line. line ≡ []) others
    → after_fault number (slice_get others k) ≡ None
after_fine number k [] nothing = refl
after_fine number zero (line ∷ others) nothing = rw nothing.0 refl
after_fine number (suc k) (line ∷ others) nothing = after_fine number k others nothing.1

slice_get-append_left : (k : ℕ) (rows others : List (List ℕ)) → k < length rows
    → slice_get (rows ++ others) k ≡ slice_get rows k
slice_get-append_left k [] others inside = absurd (omega arith)
slice_get-append_left zero (row ∷ rows) others inside = refl
slice_get-append_left (suc k) (row ∷ rows) others inside = slice_get-append_left k rows others (omega arith)

slice_get-append_right : (k n : ℕ) (rows others : List (List ℕ)) → n ≡ length rows + k
    → slice_get (rows ++ others) n ≡ slice_get others k
slice_get-append_right k n [] others place = ap (slice_get others) (omega arith)
slice_get-append_right k zero (row ∷ rows) others place = absurd (omega arith)
slice_get-append_right k (suc n) (row ∷ rows) others place =
    slice_get-append_right k n rows others (omega arith)

-- maps with the same sides and cells are one
pub same_map : (map : Map) (width height : ℕ) (cells : List ℕ) → width ≡ map.width → height ≡ map.height
    → cells ≡ map.cells → record { width = width; height = height; cells = cells } ≡ map
same_map map width height cells w h c = grind (arith)

module _ (text : List ℕ) (map : Map) (s : Spells text map) where
  abbrev spelled_lines : List (List ℕ)
  spelled_lines = s.first ∷ s.second ∷ s.third ∷ s.fourth ∷ (s.rows ++ s.others)

  height_named : side_in (codes "height") (fields_of s.second) ≡ Some map.height
  height_named = grind (arith, side_named)

  width_named : side_in (codes "width") (fields_of s.third) ≡ Some map.width
  width_named = grind (arith, side_named)

  height_is : height_of spelled_lines ≡ map.height
  height_is = ap (λ (side : Option ℕ). unwrap_or side 0) height_named

  width_is : width_of spelled_lines ≡ map.width
  width_is = ap (λ (side : Option ℕ). unwrap_or side 0) width_named

  rows_are : AllByRecursion (IsRow (width_of spelled_lines)) s.rows
  rows_are =
      rw width_is (are_rows map.width s.rows s.widths (ap (list_all is_terrain) s.cells ∙ s.is_map.terrain))

  row_clean : (row : ℕ) → row < height_of spelled_lines
      → row_fault (row + 5) (width_of spelled_lines) (slice_get (s.rows ++ s.others) row) ≡ None
  row_clean row inside =
      let there : row < length s.rows = omega (arith, height_is, s.count) in
      let at = slice_get-get_or s.rows row [] there in
      rw (slice_get-append_left row s.rows s.others there, at)
      (row_fine (row + 5) (width_of spelled_lines) (get_or s.rows row [])
      (right_at (IsRow (width_of spelled_lines)) s.rows row (get_or s.rows row []) rows_are at))

  after_clean : (row : ℕ) → height_of spelled_lines ≤ row
      → after_fault (row + 5) (slice_get (s.rows ++ s.others) row) ≡ None
  after_clean row after =
      let place : row ≡ length s.rows + (row - length s.rows) = omega (arith, height_is, s.count) in
      rw (slice_get-append_right (row - length s.rows) row s.rows s.others place)
      (after_fine (row + 5) (row - length s.rows) s.others s.nothing)

  pub spelled_clean : (k : ℕ) → fault_at spelled_lines k ≡ None
  spelled_clean zero = rw s.kind refl
  spelled_clean (suc zero) = rw height_named (side_fault_none 2 map.height s.is_map.high s.is_map.low)
  spelled_clean (suc (suc zero)) = rw width_named (side_fault_none 3 map.width s.is_map.wide s.is_map.narrow)
  spelled_clean (suc (suc (suc zero))) = rw s.begins refl
  spelled_clean (suc (suc (suc (suc row)))) = grind (arith, cases_lt, lt-ltb, row_clean, le-ltb, after_clean)

  pub spelled_map : map_on spelled_lines ≡ map
  spelled_map = grind (arith, take_at, height_is, same_map, width_is)
