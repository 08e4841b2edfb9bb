-- From one line to the next.
use Rattle.std.proofs.lemmas.Bool.Decides.{nat_tests}
use Rattle.std.proofs.Common.{◌≡◌, ℕ, zero, suc, ◌+◌, List, [], ◌∷◌, drop, Option, Some, None, refl, sym, ap}
use Rattle.std.proofs.Common.{◌∙◌, arith}
use Rattle.std.specs.Prelude.{slice_get}
use Rattle.std.proofs.lemmas.Bool.{cases_eq}
use Rattle.std.proofs.lemmas.List.{drop-drop}
use Rattle.text_line.specs.declared.lines.Line.{Line}
use Rattle.text_line.specs.Left.{Left, GivesNext}
use Rattle.map_text.specs.declared.fault.MapFault.{MapFault}
use Rattle.map_text.specs.Faults.{bytes_of, fault_at, CleanBefore, BreaksFirst}
use Rattle.map_text.specs.Progress.{Stands}

slice_get_first : (lines : List (List ℕ)) (place : ℕ) → slice_get lines place ≡ slice_get (drop place lines) 0
slice_get_first lines zero = refl
slice_get_first [] (suc place) = refl
slice_get_first (line ∷ lines) (suc place) = slice_get_first lines place

first_taken : (old new : Left) (line : Option Line) → GivesNext old line new
    → bytes_of line ≡ slice_get old.lines 0
first_taken old new line h = grind (arith, nat_tests)

-- the line that a call of `next` gives is that of the place
pub line_taken : (lines : List (List ℕ)) (place : ℕ) (old new : Left) (line : Option Line)
    → Stands lines place old → GivesNext old line new → bytes_of line ≡ slice_get lines place
line_taken lines place old new line stands gives = grind (arith, first_taken, slice_get_first)

pub clean_more : (lines : List (List ℕ)) (place : ℕ) → CleanBefore lines place → fault_at lines place ≡ None
    → CleanBefore lines (suc place)
clean_more lines place before here k below = grind (arith, cases_eq)

-- a line that breaks nothing is passed
pub stands_more : (lines : List (List ℕ)) (place : ℕ) (old new : Left) (line : Line) → Stands lines place old
    → GivesNext old (Some line) new → fault_at lines place ≡ None → Stands lines (suc place) new
stands_more lines place old new line stands gives here =
    let next : place + 1 ≡ suc place = omega arith in
    let after : drop 1 (drop place lines) ≡ drop (suc place) lines = rw (drop-drop, next) refl in
    record {
      clean = clean_more lines place stands.clean here;
      rest = ap (drop 1) (sym gives.0 ∙ stands.rest) ∙ after;
      number = omega (arith, gives.2, gives.1, stands.number);
    }

-- Below, the line of the place is judged so.
module _ (lines : List (List ℕ)) (place : ℕ) (judge : Option (List ℕ) → Option MapFault)
    (judges : fault_at lines place ≡ judge (slice_get lines place)) where
  -- a line that the judge finds right, who finds an absent line wrong, is passed
  pub judged_right : (old new : Left) (line : Option Line) → Stands lines place old → GivesNext old line new
      → (judge None ≡ None → ⊥) → judge (bytes_of line) ≡ None → Stands lines (suc place) new
  judged_right old new None stands gives absent right = absurd (absent right)
  judged_right old new (Some line) stands gives absent right =
      stands_more lines place old new line stands gives
      (judges ∙ ap judge (sym (line_taken lines place old new (Some line) stands gives)) ∙ right)

  -- one that the judge finds wrong is the first that breaks the grammar
  pub judged_wrong : (old new : Left) (line : Option Line) (fault : MapFault) → Stands lines place old
      → GivesNext old line new → judge (bytes_of line) ≡ Some fault → BreaksFirst lines fault
  judged_wrong old new line fault stands gives wrong = grind (arith, line_taken)
