-- Lines that are written, one after another.
use Rattle.std.proofs.lemmas.Bool.Decides.{nat_tests}
use Rattle.std.proofs.Common.{◌≡◌, ℕ, suc, ◌+◌, ◌-◌, ◌*◌, ◌<◌, List, [], ◌∷◌, ◌++◌, length, take, drop}
use Rattle.std.proofs.Common.{◌∙◌, arith}
use Rattle.std.proofs.lemmas.List.{append_assoc, length-drop}
use Rattle.text_line.specs.Writing.{Begins}
use Rattle.text_line.proofs.Begun.{begins_on}
use Rattle.map_text.specs.Writing.{text_of, rows_of}

-- what is written and the text of the rows left are the text of all rows
pub record AreWritten (old : List ℕ) (height width : ℕ) (cells left : List ℕ) (done : ℕ) (new : List ℕ)
    : Type 0 where
  pub long : length left ≡ (height - done) * width
  pub text :
      new ++ text_of (rows_of (height - done) width left) ≡ old ++ text_of (rows_of height width cells)
  pub kept : Begins old new

row_then : (new row after : List ℕ) → ((new ++ row) ++ 10 ∷ []) ++ after ≡ new ++ (row ++ 10 ∷ after)
row_then new row after = append_assoc (new ++ row) (10 ∷ []) after ∙ append_assoc new row (10 ∷ after)

one_less : (n width long : ℕ) → long ≡ suc n * width → long - width ≡ n * width
one_less n width long is = omega arith

module _ (old : List ℕ) (height width : ℕ) (cells : List ℕ) where
  module _ (left : List ℕ) (done : ℕ) (new : List ℕ)
      (written : AreWritten old height width cells left done new) where
    pub row_written : done < height
        → AreWritten old height width cells (drop width left) (done + 1) ((new ++ take width left) ++ 10 ∷ [])
    row_written more = grind (arith, nat_tests, length-drop, one_less, row_then, begins_on)
