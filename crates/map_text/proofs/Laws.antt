-- What a text is read as, what it spells and how it breaks the grammar.
use Rattle.std.proofs.Common.{◌≡◌, ℕ, ◌+◌, List, length, Option, Result, Ok, Err, refl, ap, subst, ◌∙◌, arith}
use Rattle.text_line.specs.Lines.{lines_of}
use Rattle.text_line.specs.Reading.{reading}
use Rattle.text_line.proofs.Reading.{Reads, reading_ok, reading_err}
use Rattle.map_text.specs.declared.fault.MapFault.{MapFault}
use Rattle.map_text.specs.Map.{Map}
use Rattle.map_text.specs.Spelling.{Spells}
use Rattle.map_text.specs.Faults.{fault_at, first_fault, map_on, map_of, BreaksFirst, Tells}
use Rattle.map_text.proofs.First.{first_fault_none, first_fault_found, first_fault_breaks, first_fault_clean}
use Rattle.map_text.proofs.Clean.{Clean, clean_spells, broken_inside}
use Rattle.map_text.proofs.Spelled.{spelled_clean, spelled_map}

-- a text that breaks the grammar is read as its first fault
pub map_of_broken : (text : List ℕ) (fault : MapFault) → BreaksFirst (lines_of text) fault
    → map_of text ≡ Err fault
unfolding map_of
map_of_broken text fault first =
    let lines = lines_of text in
    let inside = broken_inside lines first.place fault first.before first.breaks in
    ap (λ (found : Option MapFault). reading found (map_on lines))
    (first_fault_found lines 0 (length lines + 1) first.place fault first.before first.breaks
    (omega arith) (omega arith))

-- one that breaks it nowhere is read as the map on its lines
pub map_of_clean : (text : List ℕ) → Clean (lines_of text) → map_of text ≡ Ok (map_on (lines_of text))
unfolding map_of
map_of_clean text clean = grind (arith, first_fault_none)

-- what is read as a map spells it
map_of_ok : (text : List ℕ) (map : Map) → map_of text ≡ Ok map → Spells text map
unfolding map_of
map_of_ok text map read =
    let lines = lines_of text in
    let parts = reading_ok (first_fault lines 0 (length lines + 1)) (map_on lines) map read in
    let clean = first_fault_clean lines 0 (length lines + 1) (λ k below. absurd (omega arith)) parts.0 in
    subst (Spells text) parts.1 (clean_spells text lines refl (λ k below. clean k (omega arith)))

-- what is read as a fault breaks the grammar first so
map_of_err : (text : List ℕ) (fault : MapFault) → map_of text ≡ Err fault
    → BreaksFirst (lines_of text) fault
unfolding map_of
map_of_err text fault read = grind (arith, first_fault_breaks, reading_err)

-- what spells a map is read as it
map_of_spelled : (text : List ℕ) (map : Map) → Spells text map → map_of text ≡ Ok map
map_of_spelled text map s =
    let clean : Clean (lines_of text) =
    λ k below. ap (λ (lines : List (List ℕ)). fault_at lines k) s.lines ∙ spelled_clean text map s k in
    map_of_clean text clean ∙ ap (λ (lines : List (List ℕ)). let read : Result Map MapFault = Ok
    (map_on lines) in read) s.lines
    ∙ ap (λ (on : Map). let read : Result Map MapFault = Ok on in read) (spelled_map text map s)

pub map_read : (text : List ℕ) → Reads (Spells text) (BreaksFirst (lines_of text)) (map_of text)
map_read text = search (arith, map_of_ok, map_of_spelled, map_of_err, map_of_broken)

-- a text that breaks the grammar is answered by its first fault
pub broken_tells : (text : List ℕ) (lines : List (List ℕ)) (fault : MapFault) → lines ≡ lines_of text
    → BreaksFirst lines fault → Tells (Err fault) (map_of text)
broken_tells text lines fault are first = λ other. map_of_broken text fault
    (subst (λ (all : List (List ℕ)). BreaksFirst all fault) are first)
