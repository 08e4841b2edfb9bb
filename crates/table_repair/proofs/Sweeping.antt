-- A span, number by number, from the far end.
use Rattle.std.proofs.Common.{◌≡◌, ℕ, ◌+◌, ◌<◌, ◌≤◌, ◌⊎◌, arith, Bool, true, false}
use Rattle.std.specs.Prelude.{Option, Some, None, nat_eq}
use Rattle.std.proofs.lemmas.Bool.Decides.{nat_tests}
use Rattle.table_repair.specs.declared.span.Span.{Span}
use Rattle.table_repair.specs.Mending.{is_among, span_length, far_number, without_far}

-- the second number is nearer than the first, from the end or from the beginning
abbrev IsNearer : Bool → ℕ → ℕ → Type 0
IsNearer true n k = k < n
IsNearer false n k = n < k

-- it was the last or the first of the old span, and the new one ends or begins there
abbrev pub IsEdge : Bool → Span → ℕ → Span → Type 0
IsEdge true old n new = (old.end ≡ n + 1) × (new.end ≡ n)
IsEdge false old n new = (old.first ≡ n) × (new.first ≡ n + 1)

-- a number taken from the far end of a span
pub record IsTaken (from_end : Bool) (old : Span) (n : ℕ) (new : Span) : Type 0 where
  pub member : is_among old n ≡ true
  pub rest : (k : ℕ) → is_among old k ≡ true → (k ≡ n) ⊎ (is_among new k ≡ true)
  pub within : (k : ℕ) → is_among new k ≡ true → is_among old k ≡ true
  pub nearer : (k : ℕ) → is_among new k ≡ true → IsNearer from_end n k
  pub edge : IsEdge from_end old n new
  pub shorter : span_length old ≡ span_length new + 1

pub same_number : (n : ℕ) → nat_eq n n ≡ true
same_number n = grind (arith, nat_tests)

pub number_same : (m n : ℕ) → nat_eq m n ≡ true → m ≡ n
number_same m n h = grind (arith, nat_tests)

pub among_parts : (s : Span) (k : ℕ) → is_among s k ≡ true → (s.first ≤ k) × (k < s.end)
among_parts s k h = (grind (arith, nat_tests), grind (arith, nat_tests))

pub among_from : (s : Span) (k : ℕ) → s.first ≤ k → k < s.end → is_among s k ≡ true
among_from s k h l = grind (arith, nat_tests)

-- nothing is left
pub none_taken : (from_end : Bool) (s : Span) → far_number from_end s ≡ None → (k : ℕ) → is_among s k ≡ false
none_taken from_end s t k = grind arith

-- the same, as code tells it
pub taken_is : {from_end side : Bool} → from_end ≡ side → (old : Span) {new : Span} {n : ℕ}
    {answer : Option ℕ}
    → answer ≡ Some n → answer ≡ far_number from_end old → new ≡ without_far from_end old
    → IsTaken side old n new
taken_is h old i j k = grind (arith, nat_tests)
