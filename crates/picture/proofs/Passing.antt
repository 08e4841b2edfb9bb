-- A row that is passed over from the left.
use Rattle.std.proofs.lemmas.Bool.Decides.{nat_tests}
use Rattle.std.proofs.Common.{◌≡◌, ℕ, ◌+◌, ◌-◌, ◌<◌, ◌≤◌, Bool, true, false, List, [], ◌∷◌, ◌++◌, length, map}
use Rattle.std.proofs.Common.{get_or, drop, Result, Ok, Err, sym, ap, ◌∙◌, append_assoc, drop-cons, arith}
use Rattle.std.specs.Prelude.{OnOk}
use Rattle.std.specs.List.{list_any}
use Rattle.std.proofs.lemmas.List.{append-nil, drop_all}
use Rattle.picture.specs.declared.kinds.DrawnGround.{DrawnGround}
use Rattle.picture.specs.Runs.{runs_from}
use Rattle.picture.specs.Grounds.{is_of, runs_of}
use Rattle.picture.specs.Picture.{texts_of, stroke_over}
use Rattle.picture.specs.Strokes.{run_before}
use Rattle.picture.proofs.Longest.{marked, marked_more, Halts, run_then, no_run}

-- the strokes of the part of a row from a column on, before which so many cells of a run lie
abbrev pub left_of_row : DrawnGround → List ℕ → List ℕ → ℕ → ℕ → List ℕ
left_of_row kind number row x long =
    texts_of (stroke_over number) (runs_from (x - long) (marked long (map (is_of kind) (drop x row))))

-- the strokes of a row whose number is written so
abbrev pub strokes_of_row : DrawnGround → List ℕ → List ℕ → List ℕ
strokes_of_row kind number row = texts_of (stroke_over number) (runs_of kind row)

-- what is written and the strokes that are left are those of the row; the cells of the run under way lie
-- behind
pub record HasPassed (kind : DrawnGround) (number old row : List ℕ) (x long : ℕ) (new : List ℕ) : Type 0 where
  pub short : long ≤ x
  pub text : new ++ left_of_row kind number row x long ≡ old ++ strokes_of_row kind number row

-- the strokes from the run under way on: its own, if it has a cell, and those behind it
run_written : (number : List ℕ) (x long : ℕ) (marks : List Bool) → Halts marks → long ≤ x
    → run_before number x long ++ texts_of (stroke_over number) (runs_from x marks)
    ≡ texts_of (stroke_over number) (runs_from (x - long) (marked long marks))
run_written number x long marks h i = grind (arith, nat_tests, run_then)

module _ (kind : DrawnGround) (number old row : List ℕ) where
  -- a row without a cell of the ground
  pub nothing_drawn : list_any (is_of kind) row ≡ false → old ≡ old ++ strokes_of_row kind number row
  nothing_drawn none = grind (arith, nat_tests, append-nil, no_run)

  module _ (x long : ℕ) (new : List ℕ) (passed : HasPassed kind number old row x long new) where
    -- the cells that are left, of which one is the first
    first_left : x < length row
        → map (is_of kind) (drop x row) ≡ is_of kind (get_or row x 0) ∷ map (is_of kind) (drop (x + 1) row)
    first_left more = grind (arith, nat_tests, drop-cons, get_or)

    -- one cell more of the run
    pub cell_passed : (more : ℕ) (now : List ℕ) → x < length row → is_of kind (get_or row x 0) ≡ true
        → more ≡ long + 1 → now ≡ new → HasPassed kind number old row (x + 1) more now
    cell_passed more now below is counts same = grind (arith, nat_tests, marked, marked_more, first_left)

    -- a cell that ends the run, if one is under way
    pub gap_passed : (none : ℕ) (now : List ℕ) → x < length row → is_of kind (get_or row x 0) ≡ false
        → none ≡ 0 → now ≡ new ++ run_before number x long → HasPassed kind number old row (x + 1) none now
    gap_passed none now below isnt counts written =
        let marks = map (is_of kind) (drop (x + 1) row) in
        let place : (x + 1) - none ≡ x + 1 = omega arith in
        let first : map (is_of kind) (drop x row) ≡ false ∷ marks =
        first_left below ∙ ap (λ (b : Bool). b ∷ marks) isnt in
        record {
          short = omega arith;
          text = ap (λ (t : List ℕ). t ++ left_of_row kind number row (x + 1) none) written
              ∙ ap (λ (n : ℕ). (new ++ run_before number x long) ++ texts_of (stroke_over number)
              (runs_from n (marked none marks))) place
              ∙ ap (λ (n : ℕ). (new ++ run_before number x long) ++ texts_of (stroke_over number)
              (runs_from (x + 1) (marked n marks))) counts
              ∙ append_assoc new (run_before number x long)
              (texts_of (stroke_over number) (runs_from (x + 1) marks))
              ∙ ap (λ (t : List ℕ). new ++ t) (run_written number x long (false ∷ marks) tt passed.short)
              ∙ ap (λ (all : List Bool). new ++ texts_of (stroke_over number)
              (runs_from (x - long) (marked long all)))
              (sym first)
              ∙ passed.text;
        }

    -- behind the last cell
    pub row_passed : {E : Type 0} (answer : Result (Unit {0}) E) (now : List ℕ) → length row ≤ x
        → x ≤ length row → OnOk answer (now ≡ new ++ run_before number (length row) long)
        → OnOk answer (now ≡ old ++ strokes_of_row kind number row)
    row_passed (Err fault) now end within written = tt
    row_passed (Ok done) now end within written =
        let place : length row ≡ x = omega arith in
        let none : drop x row ≡ [] = drop_all x row end in
        written
        ∙ ap (λ (n : ℕ). new ++ run_before number n long) place
        ∙ sym (append-nil (new ++ run_before number x long))
        ∙ append_assoc new (run_before number x long) []
        ∙ ap (λ (t : List ℕ). new ++ t) (run_written number x long [] tt passed.short)
        ∙ ap (λ (all : List ℕ). new ++ texts_of (stroke_over number)
        (runs_from (x - long) (marked long (map (is_of kind) all)))) (sym none)
        ∙ passed.text
