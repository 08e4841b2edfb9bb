-- The rows and the lines after them.
use Rattle.std.proofs.lemmas.Bool.Decides.{nat_tests}
use Rattle.std.proofs.Common.{◌≡◌, ℕ, suc, ◌+◌, ◌<◌, ◌≤◌, true, false, eqb, List, [], ◌∷◌, ◌++◌, length, take}
use Rattle.std.proofs.Common.{drop, Option, Some, None, refl, sym, ap, subst, ◌∙◌, inl, inr, arith}
use Rattle.std.specs.Prelude.{slice_get}
use Rattle.std.specs.List.{concat}
use Rattle.std.proofs.lemmas.Bool.{lt-ltb, le-ltb, cases_lt}
use Rattle.std.proofs.lemmas.List.{take_more, length-drop}
use Rattle.std.proofs.lemmas.Option.{slice_get_past, slice_get_within, get_or_from_slice_get}
use Rattle.text_line.specs.declared.lines.Line.{Line}
use Rattle.text_line.specs.Left.{Left, GivesNext}
use Rattle.text_line.specs.Fields.{is_nothing}
use Rattle.map_text.specs.declared.fault.MapFault.{MapFault}
use Rattle.map_text.specs.declared.fault.MapFault.TheVariants.{After}
use Rattle.map_text.specs.Faults.{bytes_of, fault_at, row_fault, after_fault, height_of, width_of}
use Rattle.map_text.specs.Faults.{BreaksFirst}
use Rattle.map_text.specs.Progress.{Stands}
use Rattle.map_text.proofs.Search.{line_taken, stands_more, judged_right, judged_wrong}
use Rattle.map_text.proofs.Rows.{slice_get-drop, concat_push}
use Rattle.map_text.proofs.Clean.{Clean}

-- the place of a row
abbrev pub place_of : ℕ → ℕ
place_of row = suc (suc (suc (suc row)))

module _ (lines : List (List ℕ)) (row : ℕ) where
  module _ (height width : ℕ) (old new : Left) (line : Option Line) (same_height : height ≡ height_of lines)
      (same_width : width ≡ width_of lines) (inside : row < height) (stands : Stands lines (place_of row) old)
      (gives : GivesNext old line new) where
    judges : fault_at lines (place_of row) ≡ row_fault (row + 5) width (slice_get lines (place_of row))
    judges = grind (arith, lt-ltb)

    -- a right row is passed
    pub row_passed : row_fault (row + 5) width (bytes_of line) ≡ None → Stands lines (place_of (row + 1)) new
    row_passed right =
        let next : place_of (row + 1) ≡ suc (place_of row) = omega arith in
        subst (λ (place : ℕ). Stands lines place new) (sym next)
        (judged_right lines (place_of row) (row_fault (row + 5) width) judges old new line stands gives
        (λ none. cc) right)

    -- and its bytes are the next cells
    pub row_added : (bytes : List ℕ) → bytes_of line ≡ Some bytes
        → concat (take (row + 1) (drop 4 lines)) ≡ concat (take row (drop 4 lines)) ++ bytes
    row_added bytes are =
        let place : 4 + row ≡ place_of row = omega arith in
        let at : slice_get (drop 4 lines) row ≡ Some bytes = slice_get-drop 4 row lines
        ∙ ap (slice_get lines) place
        ∙ sym (line_taken lines (place_of row) old new line stands gives) ∙ are in
        let there = slice_get_within (drop 4 lines) row bytes at in
        ap concat (take_more (drop 4 lines) row [] there
        ∙ ap (λ (last : List ℕ). take row (drop 4 lines) ++ last ∷ [])
        (get_or_from_slice_get (drop 4 lines) row bytes [] at))
        ∙ concat_push (take row (drop 4 lines)) bytes

    pub row_wrong : (fault : MapFault) → row_fault (row + 5) width (bytes_of line) ≡ Some fault
        → BreaksFirst lines fault
    row_wrong fault wrong = judged_wrong lines (place_of row) (row_fault (row + 5) width) judges old new line
        fault stands gives wrong

  module _ (after : height_of lines ≤ row) where
    judges_after : fault_at lines (place_of row) ≡ after_fault (row + 5) (slice_get lines (place_of row))
    judges_after = rw (le-ltb row (height_of lines) after) refl

    module _ (old new : Left) (line : Line) (stands : Stands lines (place_of row) old)
        (gives : GivesNext old (Some line) new) where
      -- an empty line is passed
      pub empty_passed : is_nothing line.bytes.now ≡ true → Stands lines (place_of (row + 1)) new
      empty_passed empty =
          let next : place_of (row + 1) ≡ suc (place_of row) = omega arith in
          subst (λ (place : ℕ). Stands lines place new) (sym next)
          (stands_more lines (place_of row) old new line stands gives
          (judges_after ∙ ap (after_fault (row + 5))
          (sym (line_taken lines (place_of row) old new (Some line) stands gives)) ∙ rw empty refl))

      -- another breaks the grammar
      pub other_wrong : is_nothing line.bytes.now ≡ false → BreaksFirst lines (After line.number)
      other_wrong other =
          let number : row + 5 ≡ line.number = omega (arith, gives.1, stands.number) in
          judged_wrong lines (place_of row) (after_fault (row + 5)) judges_after old new (Some line)
          (After line.number) stands gives (rw (other, number) refl)

    -- at the end nothing is broken
    pub all_clean : (old new : Left) → Stands lines (place_of row) old → GivesNext old None new → Clean lines
    all_clean old new stands gives k below =
        let none : drop (place_of row) lines ≡ [] = sym stands.rest ∙ gives.0 in
        let short : length lines ≤ place_of row =
        omega (arith, length-drop (place_of row) lines, ap length none) in
        elim (cases_lt k (place_of row)) [
          | inl before ↦ stands.clean k before
          | inr past ↦
              let here : k ≡ place_of row = omega arith in
              ap (fault_at lines) here ∙ judges_after ∙ rw (slice_get_past lines (place_of row) short) refl
        ]

-- whether a list is empty is whether its length is 0
pub is_nothing_is : (bytes : List ℕ) → is_nothing bytes ≡ eqb (length bytes) 0
is_nothing_is bytes = grind (arith, nat_tests)
