-- The counts of faults, by which a fault shows its cause.
use Rattle.std.specs.Prelude.{◌≡◌, ℕ, List, ◌+◌, ◌-◌, ◌^◌, ◌≤◌, min, OnErr, MatchResult}
use Rattle.std.specs.declared.result.Result.{Result}

-- a count after one more: it stands still at its last value
abbrev pub raised : ℕ → ℕ
raised count = min (count + 1) (2 ^ 64 - 1)

-- the count is greater than before, or stands at its last value
abbrev pub Rose : ℕ → ℕ → Type 0
Rose before now = raised before ≤ now

-- the count didn't fall, and an error came only where it rose
pub record HasCause {T E : Type 0} (before now : ℕ) (result : Result T E) : Type 0 where
  pub later : before ≤ now
  pub failed : OnErr result (Rose before now)

-- the count stands still where the call succeeded, and rises where it failed
abbrev pub Counts : {T E : Type 0} → ℕ → ℕ → Result T E → Type 0
Counts before now result = MatchResult result (λ _. now ≡ before) (λ _. now ≡ raised before)

-- the count of no name fell
pub record NoneFell (before now : List ℕ → ℕ) : Type 0 where
  pub later : (name : List ℕ) → before name ≤ now name
