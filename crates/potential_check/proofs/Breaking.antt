-- A text is read as a fault exactly where a line breaks the grammar first so.
use Rattle.std.proofs.lemmas.Bool.Decides.{nat_tests}
use Rattle.std.proofs.Common.{◌≡◌, ℕ, zero, suc, ◌+◌, ◌<◌, inl, inr, arith, refl, ap, sym, ◌∙◌, List, []}
use Rattle.std.proofs.Common.{◌∷◌, take, Option, Some, None, Result, Ok, Err}
use Rattle.std.specs.Option.{option_and_then}
use Rattle.std.specs.Prelude.{slice_get}
use Rattle.text_line.specs.Lines.{lines_of}
use Rattle.text_line.specs.Reading.{fault_in}
use Rattle.text_line.specs.Reading as reading
use Rattle.text_line.proofs.Reading.{Reads}
use Rattle.potential_check.specs.Spelling.{Spells}
use Rattle.potential_check.specs.declared.certificate.Certificate.{Certificate}
use Rattle.potential_check.specs.declared.fault.CertFault.{CertFault}
use Rattle.potential_check.specs.declared.fault.CertFault.TheVariants.{Line, NoMemory}
use Rattle.potential_check.specs.Text.{BreaksFirst, Plain, State, Step, Tells, absent_fault, after_step}
use Rattle.potential_check.specs.Text.{at_version, certificate_of, closed, fault_after, fault_at, goes}
use Rattle.potential_check.specs.Text.{if_goes, misspelt, next, plain, read_from, state_after, step_fault}
use Rattle.potential_check.specs.Text.{unordered}
use Rattle.potential_check.proofs.LinesLeft.{needs}
use Rattle.potential_check.proofs.Spelled.{certificate_of_ok, certificate_of_spelled}

err_is : (read : Result Plain CertFault) (f : CertFault) → fault_in read ≡ Some f → read ≡ Err f
err_is (Ok p) f e = absurd (cc)
err_is (Err g) f e = cc

-- what is behind a line that may follow
abbrev behind : Step → (State → Option CertFault) → Option CertFault
behind (goes after) more = more after
behind misspelt more = None
behind unordered more = None

-- the fault of the line at a place, line by line: the first one has number n
abbrev broken_at : State → ℕ → List (List ℕ) → ℕ → Option CertFault
broken_at s n [] place = absent_fault s (n + place)
broken_at s n (line ∷ lines) zero = step_fault (next s line) n
broken_at s n (line ∷ lines) (suc place) = behind (next s line) (λ after. broken_at after (n + 1) lines place)

broken_is : (lines : List (List ℕ)) (s : State) (n place : ℕ) → broken_at s n lines place
    ≡ option_and_then (λ state. fault_after state (n + place) (slice_get lines place))
    (state_after s (take place lines))
broken_is [] s n zero = refl
broken_is [] s n (suc place) = refl
broken_is (line ∷ lines) s n zero =
    let number : n ≡ n + 0 = omega arith in ap (λ (k : ℕ). step_fault (next s line) k) number
broken_is (line ∷ lines) s n (suc place) =
    elim (next s line) as (λ t. behind t (λ after. broken_at after (n + 1) lines place)
    ≡ option_and_then (λ state. fault_after state (n + suc place) (slice_get lines place))
    (if_goes t (λ after. state_after after (take place lines)))) [
      | goes after ↦
          let number : n + 1 + place ≡ n + suc place = omega arith in
          broken_is lines after (n + 1) place
          ∙ ap (λ (k : ℕ). option_and_then (λ state. fault_after state k (slice_get lines place))
          (state_after after (take place lines))) number
      | misspelt ↦ refl
      | unordered ↦ refl
    ]

-- what is read as a fault breaks first so
found : (lines : List (List ℕ)) (s : State) (n : ℕ) (f : CertFault)
    → fault_in (read_from s n lines) ≡ Some f → reading.BreaksFirst (broken_at s n lines) f
found [] s n f read = elim (needs s) [
  | inl over ↦ absurd (let none = rw over.1 at read in cc)
  | inr lacks ↦
      let number : n + 0 ≡ n = omega arith in
      record {
        place = 0;
        breaks = ap (absent_fault s) number ∙ (lacks n).1 ∙ sym (ap fault_in (lacks n).0) ∙ read;
        before = λ k less. absurd (omega arith);
      }
]
found (line ∷ lines) s n f read =
    elim (next s line) as (λ t. next s line ≡ t
    → fault_in (after_step t n (λ after. read_from after (n + 1) lines)) ≡ Some f
    → reading.BreaksFirst (broken_at s n (line ∷ lines)) f) [
      | goes after ↦ λ is e.
          let later = found lines after (n + 1) f e in
          record {
            place = suc later.place;
            breaks = rw is later.breaks;
            before = clean after later.place is later.before;
          }
      | misspelt ↦ λ is e. record { place = 0; breaks = rw is e; before = λ k less. absurd (omega arith) }
      | unordered ↦ λ is e. record { place = 0; breaks = rw is e; before = λ k less. absurd (omega arith) }
    ] refl read
  where
    clean : (after : State) (place : ℕ) → next s line ≡ goes after
        → ((k : ℕ) → k < place → broken_at after (n + 1) lines k ≡ None) → (k : ℕ) → k < suc place
        → broken_at s n (line ∷ lines) k ≡ None
    clean after place is before zero less = rw is refl
    clean after place is before (suc k) less = rw is (before k (omega arith))

-- and what breaks first so is read as it
only : (lines : List (List ℕ)) (s : State) (n : ℕ) (f : CertFault) (place : ℕ)
    → broken_at s n lines place ≡ Some f → ((k : ℕ) → k < place → broken_at s n lines k ≡ None)
    → fault_in (read_from s n lines) ≡ Some f
only [] s n f place breaks before = elim (needs s) [
  | inl over ↦ absurd (let none = rw over.1 at breaks in cc)
  | inr lacks ↦ here place breaks before lacks
]
  where
    here : (place : ℕ) → absent_fault s (n + place) ≡ Some f
        → ((k : ℕ) → k < place → absent_fault s (n + k) ≡ None)
        → ((k : ℕ) → (closed s k ≡ Err (Line k)) × (absent_fault s k ≡ Some (Line k)))
        → fault_in (closed s n) ≡ Some f
    here zero breaks before lacks =
        let number : n ≡ n + 0 = omega arith in
        ap fault_in (lacks n).0 ∙ sym (lacks n).1 ∙ ap (absent_fault s) number ∙ breaks
    here (suc place) breaks before lacks =
        absurd (let none = before 0 (omega arith) in let some = (lacks (n + 0)).1 in cc)
only (line ∷ lines) s n f zero breaks before =
    elim (next s line) as (λ t. step_fault t n ≡ Some f
    → fault_in (after_step t n (λ after. read_from after (n + 1) lines)) ≡ Some f) [
      | goes after ↦ λ e. absurd (cc)
      | misspelt ↦ λ e. e
      | unordered ↦ λ e. e
    ] breaks
only (line ∷ lines) s n f (suc place) breaks before =
    elim (next s line) as (λ t. next s line ≡ t
    → behind t (λ after. broken_at after (n + 1) lines place) ≡ Some f
    → fault_in (after_step t n (λ after. read_from after (n + 1) lines)) ≡ Some f) [
      | goes after ↦ λ is e.
          only lines after (n + 1) f place e (λ k less. rw is at (before (suc k) (omega arith)))
      | misspelt ↦ λ is e. absurd (cc)
      | unordered ↦ λ is e. absurd (cc)
    ] refl breaks

-- of a text
at_text : (lines : List (List ℕ)) (place : ℕ) → broken_at at_version 1 lines place ≡ fault_at lines place
at_text lines place = grind (arith, nat_tests, broken_is)

certificate_of_broken : (text : List ℕ) (f : CertFault) → BreaksFirst (lines_of text) f
    → certificate_of text ≡ Err f
unfolding certificate_of
certificate_of_broken text f first =
    err_is (read_from at_version 1 (lines_of text)) f
    (only (lines_of text) at_version 1 f first.place (at_text (lines_of text) first.place ∙ first.breaks)
    (λ k less. at_text (lines_of text) k ∙ first.before k less))

certificate_of_err : (text : List ℕ) (f : CertFault) → certificate_of text ≡ Err f
    → BreaksFirst (lines_of text) f
unfolding certificate_of
certificate_of_err text f read =
    let first = found (lines_of text) at_version 1 f (ap fault_in read) in
    record {
      place = first.place;
      breaks = sym (at_text (lines_of text) first.place) ∙ first.breaks;
      before = λ k less. sym (at_text (lines_of text) k) ∙ first.before k less;
    }

-- so a text is read as the certificate that it spells, or as its first fault
pub certificate_read : (text : List ℕ)
    → Reads (Spells text) (BreaksFirst (lines_of text)) (certificate_of text)
certificate_read text = record {
  found = certificate_of_ok text;
  only = certificate_of_spelled text;
  first = certificate_of_err text;
  broken = certificate_of_broken text;
}

-- and an answer that tells it does so in the form of all readers
pub as_reading : (answer : Result Certificate CertFault) (read : Result Plain CertFault) → Tells answer read
    → reading.Tells NoMemory plain answer read
as_reading (Ok c) read tells = tells
as_reading (Err NoMemory) read tells = λ other. absurd (other refl)
as_reading (Err fault) read tells = λ other. tells
