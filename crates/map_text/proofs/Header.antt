-- The four lines of the header.
use Rattle.std.proofs.Common.{◌≡◌, ℕ, suc, true, false, List, Option, Some, None, sym, ap, arith}
use Rattle.std.specs.Prelude.{slice_get, unwrap_or}
use Rattle.text_line.specs.declared.lines.Line.{Line}
use Rattle.text_line.specs.Left.{Left, GivesNext}
use Rattle.map_text.specs.declared.fault.MapFault.{MapFault}
use Rattle.map_text.specs.declared.fault.MapFault.TheVariants.{Header}
use Rattle.map_text.specs.Faults.{bytes_of, has_words, words_fault, side_on, side_fault, fault_at}
use Rattle.map_text.specs.Faults.{BreaksFirst}
use Rattle.map_text.specs.Progress.{Stands}
use Rattle.map_text.proofs.Search.{line_taken, judged_right, judged_wrong}

-- before the first line nothing is broken
pub stands_first : (left : Left) → left.number ≡ 1 → Stands left.lines 0 left
stands_first left number = grind (arith)

module _ (lines : List (List ℕ)) (place : ℕ) (old new : Left) (line : Option Line)
    (stands : Stands lines place old) (gives : GivesNext old line new) where
  module _ (number : ℕ) (words : List (List ℕ))
      (judges : fault_at lines place ≡ words_fault number (has_words words (slice_get lines place))) where
    pub words_right : true ≡ has_words words (bytes_of line) → Stands lines (suc place) new
    words_right right = judged_right lines place (λ there. words_fault number (has_words words there)) judges
        old new line stands gives (λ none. cc) (ap (words_fault number) (sym right))

    pub words_wrong : false ≡ has_words words (bytes_of line) → BreaksFirst lines (Header number)
    words_wrong wrong = judged_wrong lines place (λ there. words_fault number (has_words words there)) judges
        old new line (Header number) stands gives (ap (words_fault number) (sym wrong))

  module _ (number : ℕ) (word : List ℕ)
      (judges : fault_at lines place ≡ side_fault number (side_on word (slice_get lines place))) where
    pub side_right : side_fault number (side_on word (bytes_of line)) ≡ None → Stands lines (suc place) new
    side_right right = judged_right lines place (λ there. side_fault number (side_on word there)) judges old
        new line stands gives (λ none. cc) right

    pub side_wrong : (fault : MapFault) → side_fault number (side_on word (bytes_of line)) ≡ Some fault
        → BreaksFirst lines fault
    side_wrong fault wrong = judged_wrong lines place (λ there. side_fault number (side_on word there)) judges
        old new line fault stands gives wrong

  -- what the line names
  pub side_named : (word : List ℕ) (side : ℕ) → side_on word (bytes_of line) ≡ Some side
      → side ≡ unwrap_or (side_on word (slice_get lines place)) 0
  side_named word side named = grind (arith, line_taken)
