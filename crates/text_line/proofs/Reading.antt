-- Texts that are read line by line: their values and their faults.
use Rattle.std.proofs.Common.{◌≡◌, ◌≢◌, ℕ, zero, suc, ◌<◌, List, [], ◌∷◌, ◌++◌, Option, Some, None, Result}
use Rattle.std.proofs.Common.{Ok, Err, refl, sym, ap, ◌∙◌, ◌⊎◌, inl, inr, arith}
use Rattle.std.specs.Prelude.{IfOk, IfErr}
use Rattle.std.specs.Option.{option_or}
use Rattle.text_line.specs.Reading.{fault_in, reading, BreaksFirst, Tells, first_fault, values_on, read_lines}
use Rattle.text_line.specs.Reading.{fault_on, values_in, SpellInOrder, IsRightReading}

-- what a text is read as is what it spells, or how it breaks its grammar
pub record Reads {V F : Type 0} (Spells : V → Type 0) (Breaks : F → Type 0) (read : Result V F) : Type 0 where
  pub found : (value : V) → read ≡ Ok value → Spells value
  pub only : (value : V) → Spells value → read ≡ Ok value
  pub first : (fault : F) → read ≡ Err fault → Breaks fault
  pub broken : (fault : F) → Breaks fault → read ≡ Err fault

-- an answer that tells it
module _ {A V F : Type 0} {Spells : V → Type 0} {Breaks : F → Type 0} {read : Result V F}
    (reads : Reads Spells Breaks read) (memory : F) (view : A → V) where
  pub tells_found : (answer : Result A F) → Tells memory view answer read
      → IfOk answer (λ value. Spells (view value))
  tells_found (Ok value) tells = reads.found (view value) tells
  tells_found (Err fault) tells = tt

  pub tells_only : (answer : Result A F) → Tells memory view answer read → (value : V) → Spells value
      → Tells memory view answer (Ok value)
  tells_only answer tells value spells = rw (← reads.only value spells) tells

  pub tells_first : (answer : Result A F) → Tells memory view answer read
      → IfErr answer (λ fault. fault ≢ memory → Breaks fault)
  tells_first (Ok value) tells = tt
  tells_first (Err fault) tells = λ other. reads.first fault (tells other)

  pub tells_broken : (answer : Result A F) → Tells memory view answer read → (fault : F) → Breaks fault
      → Tells memory view answer (Err fault)
  tells_broken answer tells fault breaks = rw (← reads.broken fault breaks) tells

  pub right_reading : (answer : Result A F) → Tells memory view answer read
      → IsRightReading memory view Spells Breaks read answer
  right_reading answer tells = record {
    found = tells_found answer tells;
    only = tells_only answer tells;
    first = tells_first answer tells;
    broken = tells_broken answer tells;
    exact = tells;
  }

pub reading_ok : {V F : Type 0} (found : Option F) (on value : V) → reading found on ≡ Ok value
    → (found ≡ None) × (on ≡ value)
reading_ok None on value read = (refl, cc)
reading_ok (Some fault) on value read = absurd cc

pub reading_err : {V F : Type 0} (found : Option F) (on : V) (fault : F) → reading found on ≡ Err fault
    → found ≡ Some fault
reading_err None on fault read = absurd cc
reading_err (Some other) on fault read = cc

-- what each line is read as, and what it spells
pub record Judges {L V F : Type 0} (judge : L → Result (Option V) F) (IsBlank : L → Type 0)
    (Spells : L → V → Type 0) : Type 0 where
  pub blank : (line : L) → judge line ≡ Ok None → IsBlank line
  pub nothing : (line : L) → IsBlank line → judge line ≡ Ok None
  pub spelled : (line : L) (value : V) → judge line ≡ Ok (Some value) → Spells line value
  pub value : (line : L) (value : V) → Spells line value → judge line ≡ Ok (Some value)

module _ {L V F : Type 0} (judge : L → Result (Option V) F) where
  -- a first line with a fault, or without one
  fault_first : (line : L) (lines : List L) → ((fault : F) × (fault_in (judge line) ≡ Some fault))
      ⊎ (fault_in (judge line) ≡ None)
  fault_first line lines = grind (arith)

  found_breaks : (lines : List L) (fault : F) → first_fault judge lines ≡ Some fault
      → BreaksFirst (fault_on judge lines) fault
  found_breaks [] fault found = absurd cc
  found_breaks (line ∷ lines) fault found =
      elim (fault_first line lines) [
        | inl here ↦
            let same = rw here.1 at found in
            record { place = 0; breaks = here.1 ∙ same; before = λ k below. absurd (omega arith) }
        | inr none ↦
            let later = found_breaks lines fault (rw none at found) in
            record {
              place = suc later.place;
              breaks = later.breaks;
              before = clean none later.place later.before;
            }
      ]
    where
      clean : fault_in (judge line) ≡ None → (place : ℕ)
          → ((k : ℕ) → k < place → fault_on judge lines k ≡ None) → (k : ℕ) → k < suc place
          → fault_on judge (line ∷ lines) k ≡ None
      clean none place before zero below = none
      clean none place before (suc k) below = before k (omega arith)

  breaks_found : (lines : List L) (place : ℕ) (fault : F) → fault_on judge lines place ≡ Some fault
      → ((k : ℕ) → k < place → fault_on judge lines k ≡ None) → first_fault judge lines ≡ Some fault
  breaks_found [] place fault breaks before = absurd cc
  breaks_found (line ∷ lines) zero fault breaks before = rw breaks refl
  breaks_found (line ∷ lines) (suc place) fault breaks before =
      let none : fault_in (judge line) ≡ None = before 0 (omega arith) in
      rw none (breaks_found lines place fault breaks (λ k below. before (suc k) (omega arith)))

  module _ {IsBlank : L → Type 0} {Spells : L → V → Type 0} (judges : Judges judge IsBlank Spells) where
    clean_spells : (lines : List L) → first_fault judge lines ≡ None
        → SpellInOrder IsBlank Spells lines (values_on judge lines)
    clean_spells [] clean = refl
    clean_spells (line ∷ lines) clean =
        elim (judge line) as (λ j. judge line ≡ j → option_or (fault_in j) (first_fault judge lines) ≡ None
        → SpellInOrder IsBlank Spells (line ∷ lines) (values_in j ++ values_on judge lines)) [
          | Err fault ↦ λ is clean. absurd cc
          | Ok None ↦ λ is clean. inl (judges.blank line is, clean_spells lines clean)
          | Ok (Some value) ↦ λ is clean. inr (record {
            first = value;
            others = values_on judge lines;
            are = refl;
            spelled = judges.spelled line value is;
            later = clean_spells lines clean;
          })
        ] refl clean

    spelled_clean : (lines : List L) (values : List V) → SpellInOrder IsBlank Spells lines values
        → (first_fault judge lines ≡ None) × (values_on judge lines ≡ values)
    spelled_clean [] values none = (refl, sym none)
    spelled_clean (line ∷ lines) values spelled = elim spelled [
      | inl blank ↦
          let later = spelled_clean lines values blank.1 in
          let here = judges.nothing line blank.0 in
          (rw here later.0, rw here later.1)
      | inr first ↦
          let later = spelled_clean lines first.others first.later in
          let here = judges.value line first.first first.spelled in
          (rw here later.0, rw here (ap (λ (others : List V). first.first ∷ others) later.1 ∙ sym first.are))
    ]

    -- so lines are read as what they spell, or as their first fault
    pub lines_read : (lines : List L)
        → Reads (SpellInOrder IsBlank Spells lines) (BreaksFirst (fault_on judge lines))
        (read_lines judge lines)
    lines_read lines = record {
      found = λ values read.
          let parts = reading_ok (first_fault judge lines) (values_on judge lines) values read in
          rw (← parts.1) (clean_spells lines parts.0);
      only = λ values spelled. let parts = spelled_clean lines values spelled in rw (parts.0, parts.1) refl;
      first = λ fault read.
          found_breaks lines fault (reading_err (first_fault judge lines) (values_on judge lines) fault read);
      broken = λ fault breaks. rw (breaks_found lines breaks.place fault breaks.breaks breaks.before) refl;
    }
