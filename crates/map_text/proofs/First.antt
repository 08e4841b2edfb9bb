-- The first fault of a text is that of its first broken line.
use Rattle.std.proofs.Common.{◌≡◌, ℕ, zero, suc, ◌+◌, ◌<◌, ◌≤◌, List, Option, Some, None, refl, ap, ◌∙◌, ◌⊎◌}
use Rattle.std.proofs.Common.{inl, inr, arith}
use Rattle.std.proofs.lemmas.Bool.{cases_eq}
use Rattle.map_text.specs.declared.fault.MapFault.{MapFault}
use Rattle.map_text.proofs.Search.{clean_more}
use Rattle.map_text.specs.Faults.{fault_at, first_fault, CleanBefore, BreaksFirst}

-- where no place has a fault, there is no first one
pub first_fault_none : (lines : List (List ℕ)) (place count : ℕ) → CleanBefore lines (place + count)
    → first_fault lines place count ≡ None
first_fault_none lines place zero clean = refl
first_fault_none lines place (suc count) clean =
    grind (arith, first_fault_none lines (place + 1) count (λ k below. clean k (omega arith)))

-- where a place has one and none before it does, its fault is the first
pub first_fault_found : (lines : List (List ℕ)) (place count at : ℕ) (fault : MapFault)
    → CleanBefore lines at → fault_at lines at ≡ Some fault → place ≤ at → at < place + count
    → first_fault lines place count ≡ Some fault
first_fault_found lines place zero at fault clean broken from to = absurd (omega arith)
first_fault_found lines place (suc count) at fault clean broken from to =
    elim (cases_eq place at) [
      | inl same ↦ let here : fault_at lines place ≡ Some fault =
          ap (fault_at lines) same ∙ broken in rw here refl
      | inr other ↦ rw (clean place (omega arith))
          (first_fault_found lines (place + 1) count at fault clean broken (omega arith) (omega arith))
    ]

cases_fault : (here : Option MapFault) → (here ≡ None) ⊎ ((fault : MapFault) × (here ≡ Some fault))
cases_fault None = inl refl
cases_fault (Some fault) = inr (fault, refl)

-- the first fault is that of the first broken line
pub first_fault_breaks : (lines : List (List ℕ)) (place count : ℕ) (fault : MapFault)
    → CleanBefore lines place → first_fault lines place count ≡ Some fault → BreaksFirst lines fault
first_fault_breaks lines place zero fault clean found = absurd cc
first_fault_breaks lines place (suc count) fault clean found =
    elim (cases_fault (fault_at lines place)) [
      | inl none ↦ let later = rw none at found in first_fault_breaks lines (place + 1) count fault
          (λ k below. clean_more lines place clean none k (omega arith)) later
      | inr here ↦ let same =
          rw here.1 at found in record { place = place; breaks = here.1 ∙ same; before = clean }
    ]

-- where there is none, no place has one
pub first_fault_clean : (lines : List (List ℕ)) (place count : ℕ) → CleanBefore lines place
    → first_fault lines place count ≡ None → CleanBefore lines (place + count)
first_fault_clean lines place zero clean none = λ k below. clean k (omega arith)
first_fault_clean lines place (suc count) clean none =
    elim (cases_fault (fault_at lines place)) [
      | inl here ↦
          let later = rw here at none in
          let rest = first_fault_clean lines (place + 1) count
          (λ k below. clean_more lines place clean here k (omega arith)) later in
          λ k below. rest k (omega arith)
      | inr here ↦ absurd (cc (rw here.1 at none))
    ]
