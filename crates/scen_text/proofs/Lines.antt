-- What the lines of a text are read as, one after another.
use Rattle.std.proofs.lemmas.Bool.Decides.{nat_tests}
use Rattle.std.proofs.Common.{◌≡◌, ℕ, true, false, List, [], ◌∷◌, length, drop, Option, Some, None, Ok, Err}
use Rattle.std.proofs.Common.{refl, sym, ap, ◌∙◌, arith}
use Rattle.std.specs.Prelude.{slice_get}
use Rattle.std.proofs.lemmas.Bool.{le-ltb}
use Rattle.text_line.specs.Reading.{reading, read_behind}
use Rattle.text_line.specs.declared.places.PlacedLine.{PlacedLine}
use Rattle.text_line.specs.Places.{Placed, LineAt, fields_from, lines_at, GivesLine}
use Rattle.scen_text.specs.declared.fault.ScenFault.{ScenFault}
use Rattle.scen_text.specs.declared.fault.ScenFault.TheVariants.{Version}
use Rattle.scen_text.specs.declared.entry.Entry.{Entry}
use Rattle.scen_text.specs.Words.{Words}
use Rattle.scen_text.specs.Spelling.{HasWords}
use Rattle.scen_text.specs.Faults.{has_version, words_fault, entry_in, fields_read, line_read, scen_of}
use Rattle.scen_text.specs.Progress.{line_given}
use Rattle.scen_text.proofs.Split.{words_are, nine_fields}

-- a line with the words of an entry
pub line_words : (line : LineAt) (bucket : Placed) (left : List Placed) (words : Words)
    → fields_from line.place line.bytes ≡ bucket ∷ left → HasWords (bucket ∷ left) words
    → line_read line ≡ reading (words_fault line.number words) (Some (entry_in line.number words))
line_words line bucket left words are has =
    let nine = le-ltb (length (bucket ∷ left)) 9 (nine_fields (bucket ∷ left) words has) in
    ap (fields_read line.number) are ∙ rw nine
    (ap (λ (w : Words). reading (words_fault line.number w) (Some (entry_in line.number w)))
    (words_are (bucket ∷ left) words has))

-- the same of the answer for it
module _ (line : LineAt) (bucket : Placed) (left : List Placed) (words : Words)
    (are : fields_from line.place line.bytes ≡ bucket ∷ left) (has : HasWords (bucket ∷ left) words) where
  pub entry_is : (entry : Entry)
      → (words_fault line.number words ≡ None) × (entry ≡ entry_in line.number words)
      → Ok (Some entry) ≡ line_read line
  entry_is entry given = sym (line_words line bucket left words are has ∙ rw (given.0, ← given.1) refl)

  pub fault_is : (fault : ScenFault) → words_fault line.number words ≡ Some fault
      → Err fault ≡ line_read line
  fault_is fault given = sym (line_words line bucket left words are has ∙ rw given refl)

first_given : (old new : List LineAt) (line : Option PlacedLine) → GivesLine old line new
    → (slice_get old 0 ≡ line_given line) × (drop 1 old ≡ new)
first_given old new line h = grind (arith, nat_tests)

-- below, the first line is taken from all
module _ (text : List ℕ) (old new : List LineAt) (line : Option PlacedLine) (all : old ≡ lines_at text)
    (gives : GivesLine old line new) where
  -- it names the version, and the others are left
  pub version_right : true ≡ has_version (line_given line) → scen_of text ≡ read_behind line_read [] new
  unfolding scen_of
  version_right right = grind (arith, first_given)

  -- it does not
  pub version_wrong : false ≡ has_version (line_given line) → scen_of text ≡ Err (Version 1)
  unfolding scen_of
  version_wrong wrong = grind (arith, first_given)
