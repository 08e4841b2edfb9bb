-- The least number at which something holds.
use Rattle.std.specs.Prelude.{ℕ, ◌<◌, ◌≤◌, Option, MatchOption}

-- no number from `low` on and below n has the property
abbrev pub NoneBelow : (ℕ → Type 0) → ℕ → ℕ → Type 0
NoneBelow P low n = (k : ℕ) → low ≤ k → k < n → ¬ P k

-- n is the least number from `low` on that has it
pub record IsLeast (P : ℕ → Type 0) (low n : ℕ) : Type 0 where
  pub in_range : low ≤ n
  pub holds : P n
  pub least : NoneBelow P low n

-- the answer is that number, or none where no number from `low` on has it
abbrev pub FindsLeast : (ℕ → Type 0) → ℕ → Option ℕ → Type 0
FindsLeast P low answer = MatchOption answer ((n : ℕ) → NoneBelow P low n) (IsLeast P low)
